-- An entry in memory tells which entry of the machine it stands for, and so does a purpose.
use Prim.Native.Nat.{ℕ}
use Rattle.std.specs.Prelude.{Option}
use mathlib.Core.List.{List}
use Rattle.definitions.specs.Name.{Name}
use Rattle.definitions.specs.Term.{Label, NamedFunction, ProofTerm}
use Rattle.reading_laws.specs.TermMachine.{Purpose, as_head, as_argument, as_body, Entry, in_bracket, second, function_body, case_head, case_first, case_second, let_head, let_body}
use Rattle.reading_laws.specs.Marks.{Mark, entries_marks}
use Rattle.words.specs.Names.{number_in}
use Rattle.words.specs.Table.{table_names}
use Rattle.words.specs.declared.NamedFunction as called
use Rattle.proof_term.specs.declared.nodes.Label as numbered
use Rattle.term_stack.specs.declared.Progress.{Progress}
use Rattle.term_stack.specs.declared.Hand.{Hand}
use Rattle.term_stack.specs.declared.Part.{Part}
use Rattle.term_stack.specs.declared.Purpose as reader
use Rattle.term_stack.specs.declared.Purpose.TheVariants.{Head, Argument, Body}
use Rattle.term_stack.specs.declared.Entry as stacked
use Rattle.term_stack.specs.declared.Entry.TheVariants.{Bracket, Second, FunctionBody, CaseHead, CaseFirst, CaseSecond, LetHead, LetBody}
use Rattle.term_stack.specs.declared.Work.{Work}
use Rattle.term_stack.specs.Numbers.{purpose_after, entry_after}
use Rattle.term_stack.specs.Standing.{Scene}
use Rattle.term_stack.specs.Using.{Using, Gives}
use Rattle.term_stack.proofs.Marked.{extends_itself}

pub data ReadFor : reader.Purpose → Purpose → Type 0 where
  for_head : ReadFor Head as_head
  for_argument : {f : Part} {t : ProofTerm Name} → ReadFor (Argument f) (as_argument t)
  for_body : {f : called.NamedFunction} {g : NamedFunction} → ReadFor (Body f) (as_body g)

pub data StandsFor : stacked.Entry → Entry → Type 0 where
  for_bracket : {q : reader.Purpose} {p : Purpose} → StandsFor (Bracket q) (in_bracket p)
  for_second : {q : reader.Purpose} {f : Part} {p : Purpose} {b : ProofTerm Name} → StandsFor (Second q f) (second p b)
  for_function : {name : ℕ} {label : Option numbered.Label} {x : Name} {l : Option (Label Name)} → StandsFor (FunctionBody name label) (function_body x l)
  for_case : StandsFor CaseHead case_head
  for_first : {f : Part} {m : ℕ} {b : ProofTerm Name} {x : Name} → StandsFor (CaseFirst f m) (case_first b x)
  for_branches : {f g : Part} {m n : ℕ} {b c : ProofTerm Name} {x y : Name} → StandsFor (CaseSecond f m g n) (case_second b x c y)
  for_let : {m n : ℕ} {x y : Name} → StandsFor (LetHead m n) (let_head x y)
  for_let_body : {m n : ℕ} {f : Part} {x y : Name} {b : ProofTerm Name} → StandsFor (LetBody m n f) (let_body x y b)

read_for : (ms : List Mark) (p : Purpose) → ReadFor (purpose_after ms p) p
unfolding purpose_after
read_for ms as_head = for_head
read_for ms (as_argument f) = for_argument
read_for ms (as_body g) = for_body

stands_for : (number : Name → ℕ) (ms : List Mark) (entry : Entry) → StandsFor (entry_after number ms entry) entry
unfolding entry_after
stands_for number ms (in_bracket p) = for_bracket
stands_for number ms (second p b) = for_second
stands_for number ms (function_body x l) = for_function
stands_for number ms case_head = for_case
stands_for number ms (case_first b x) = for_first
stands_for number ms (case_second b x c y) = for_branches
stands_for number ms (let_head x y) = for_let
stands_for number ms (let_body x y b) = for_let_body

module _ {z : Scene} {work : Work} {s : Progress} {h : Hand} where
  pub purpose_for : {q : reader.Purpose} (u : Using z work s h q) → ReadFor q u.purpose
  purpose_for u = rw u.for.purpose_is (read_for (entries_marks u.entries) u.purpose)

  pub entry_for : {e : stacked.Entry} (g : Gives z work s h e) → StandsFor e g.entry
  entry_for g =
      let seen = table_names z.names in
      rw (g.to.top (number_in seen) (extends_itself seen)) (stands_for (number_in seen) (entries_marks g.below) g.entry)
