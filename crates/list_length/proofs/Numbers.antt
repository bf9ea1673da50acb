-- A list of a term in records is short, so that a counter counts all of it; and what is told of a list.
use Prim.Native.Nat.{ℕ, zero, suc, ◌+◌, ◌*◌, ◌^◌, ◌≤◌, ◌<◌}
use mathlib.Core.Path.{◌≡◌, refl, ap}
use mathlib.Core.List.{List, [], ◌∷◌}
use native.Mathlib.Omega.{arith}
use native.Mathlib.Numerals.{add-one}
use lib.ListN.{length, length-append, length-map, length-drop}
use Rattle.std.specs.Prelude.{Ok, Err, Option, None, Some}
use Rattle.definitions.specs.declared.Refusal.{Refusal}
use Rattle.definitions.specs.declared.Version.{Version}
use Rattle.definitions.specs.declared.TermList.{TermList}
use Rattle.definitions.specs.declared.TermList.TheVariants.{Atoms, Datatypes}
use Rattle.definitions.specs.Outcome.{accepted, refused, map_outcome}
use Rattle.definitions.specs.Prop.{Prop, True, False, Binary, Atom, Quantified, AtomUse, get_atoms, get_datatypes}
use Rattle.definitions.specs.Code.{encode, u16}
use Rattle.definitions.specs.Term.{ProofTerm}
use Rattle.definitions.specs.Answers.{atom_numbers, sheet_term}
use Rattle.output.specs.Sinks.{CounterPuts}
use Rattle.output.specs.declared.counter.Counter.{Counter}
use Rattle.output.specs.Written.{written_of}
use Rattle.prefix_code.specs.Scan.{Stands}
use Rattle.prop_lists.specs.Entries.{use_of, entries, entry_numbers}
use Rattle.vocabulary.specs.declared.Vocabulary.{Vocabulary}
use Rattle.vocabulary.specs.Vocabulary.{code_in, prop_in, SomeProposition}
use Rattle.proof_term.specs.declared.nodes.Label.{Label}
use Rattle.proof_term.specs.declared.nodes.Label.TheVariants.{Datatype, Proposition}
use Rattle.proof_term_lists.specs.Labels.{term_uses, record_adds, added_uses, AddedStands, Listable, term_in}
use Rattle.proof_term_lists.specs.Numbers.{list_numbers}
use Rattle.proof_term_lists.proofs.Labels.{uses_below, uses_none, uses_more, uses_all, added_stands}
use Rattle.proof_term_lists.proofs.Numbers.{numbers_are}
use Rattle.sheet.specs.Admitted.{Accepted}
use Rattle.sheet.proofs.Admitted.{has_header}
use Rattle.sheet_term.specs.Held.{HeldTerm}
use Rattle.text.specs.Declaring.{sheet_vocabulary}
use Rattle.text.proofs.Labels.{props_are}

-- a proposition has no more entries than its code has bytes
atoms_few : (p : Prop ℕ) → length (get_atoms p) ≤ length (encode p)
unfolding get_atoms encode u16
atoms_few True = omega arith
atoms_few False = omega arith
atoms_few (Binary c p q) =
    omega (arith, atoms_few p, atoms_few q, length-append (get_atoms p) (get_atoms q), length-append (encode p) (encode q))
atoms_few (Atom a ps) = omega arith
atoms_few (Quantified q x t p) = omega (arith, atoms_few p)

datatypes_few : (p : Prop ℕ) → length (get_datatypes p) ≤ length (encode p)
unfolding get_datatypes encode u16
datatypes_few True = omega arith
datatypes_few False = omega arith
datatypes_few (Binary c p q) =
    omega (arith, datatypes_few p, datatypes_few q, length-append (get_datatypes p) (get_datatypes q), length-append (encode p) (encode q))
datatypes_few (Atom a ps) = omega arith
datatypes_few (Quantified q x t p) = omega (arith, datatypes_few p)

entries_few : (list : TermList) (p : Prop ℕ) → length (entries list p) ≤ length (encode p)
entries_few Atoms p = atoms_few p
entries_few (Datatypes v) p = omega (arith, datatypes_few p, length-map (get_datatypes p) (λ t. use_of t 0))

pub atom_numbers_lem : (uses : List (AtomUse ℕ)) → length (entry_numbers Atoms uses) ≡ 2 * length uses
unfolding entry_numbers atom_numbers
atom_numbers_lem [] = refl
atom_numbers_lem (a ∷ uses) = omega (arith, atom_numbers_lem uses)

pub datatype_numbers : (v : Version) (uses : List (AtomUse ℕ)) → length (entry_numbers (Datatypes v) uses) ≡ length uses
unfolding entry_numbers
datatype_numbers v [] = refl
datatype_numbers v (a ∷ uses) = omega (arith, datatype_numbers v uses)

numbers_few : (list : TermList) (uses : List (AtomUse ℕ)) → length (entry_numbers list uses) ≤ 2 * length uses
numbers_few Atoms uses = omega (arith, atom_numbers_lem uses)
numbers_few (Datatypes v) uses = omega (arith, datatype_numbers v uses)

-- Of a memory whose code is that of a sheet at the longest:
module _ (bytes : List ℕ) (v : Vocabulary) (short : length (code_in bytes v) ≤ 8192) (list : TermList) where
  proposition_few : {at : ℕ} → SomeProposition bytes v at → length (entries list (prop_in bytes v at)) ≤ 8192
  unfolding Stands prop_in
  proposition_few {at} here =
      omega (
        arith,
        entries_few list (prop_in bytes v at),
        ap length here.present.stands.1,
        length-append (encode (prop_in bytes v at)) here.present.rest,
        length-drop at (code_in bytes v),
      )

  added_few : (added : Option Label) → AddedStands bytes v added → length (added_uses bytes v list added) ≤ 8192
  added_few None stands = omega arith
  added_few (Some (Datatype name)) stands = omega arith
  added_few (Some (Proposition at)) stands = proposition_few stands

  module _ {records : List ℕ} {n : ℕ} (here : Listable bytes v records n) where
    uses_few : (m : ℕ) → m ≤ n + 1 → length (uses_below bytes v list records m) ≤ 8192 * m
    uses_few zero h = omega (arith, ap length (uses_none bytes v list records))
    uses_few (suc m) h =
        let added = record_adds list records m in
        let more = added_few added (added_stands here list m (omega arith) refl) in
        let joined = ap length (uses_more bytes v list records m {added = added} refl) in
        let split = length-append (uses_below bytes v list records m) (added_uses bytes v list added) in
        rw (← add-one) (omega (arith, uses_few m (omega arith), more, joined, split))

    pub list_short : n < 2048 → length (list_numbers list (term_in bytes v records n)) < 2 ^ 63
    list_short small =
        let t = term_in bytes v records n in
        omega (
          arith,
          ap length (numbers_are list t),
          numbers_few list (term_uses list t),
          ap length (uses_all here list (n + 1) refl),
          uses_few (n + 1) (omega arith),
        )

-- Of a list and a sheet's bytes:
module _ (list : TermList) (s : List ℕ) where
  pub refusal_told : {x : Refusal} → sheet_term s ≡ refused x → Err x ≡ written_of (map_outcome (list_numbers list) (sheet_term s))
  unfolding map_outcome written_of
  refusal_told e = rw e

  -- all numbers of the term's list are counted
  pub length_told : Accepted s → {words : Vocabulary} → words ≡ sheet_vocabulary s → {terms : List ℕ} {n : ℕ} → HeldTerm s terms n
      → length (list_numbers list (term_in s words terms n)) < 2 ^ 63 → {a b : Counter} → a.count ≡ 0 → CounterPuts a (list_numbers list (term_in s words terms n)) b
      → Ok b.count ≡ written_of (map_outcome (list_numbers list) (sheet_term s))
  unfolding map_outcome written_of
  length_told sheet {words} same {terms} {n} term short {b = b} none counts =
      let t : ProofTerm ℕ = term_in s words terms n in
      let is : sheet_term s ≡ accepted t = rw (props_are (has_header sheet.sheet) same) term.is_term in
      let long : b.count ≡ length (list_numbers list t) = omega (arith, counts.counted) in
      rw (is, long)
