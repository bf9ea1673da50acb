-- The small steps between the calls of the two functions: what is asked of a part, and what stays.
use Prim.Native.Nat.{ℕ, ◌+◌, ◌≤◌, ◌<◌}
use mathlib.Core.Path.{◌≡◌, ◌∙◌}
use Rattle.std.specs.Prelude.{Option, Some, Result, Ok}
use mathlib.Core.List.{List}
use native.Mathlib.Omega.{arith}
use lib.ListN.{length, set}
use Rattle.definitions.specs.Term.{ProofTerm}
use Rattle.definitions.specs.TermText.{nodes}
use Rattle.prefix_code.specs.PropAt.{prop_at}
use Rattle.prefix_code.specs.declared.Connective.{Connective}
use Rattle.prop_numbers.specs.declared.Made.{Made}
use Rattle.prop_numbers.specs.Standing.{standing, node_limit, number_limit, name_space, Stood, Known, Space, Kept}
use Rattle.prop_numbers.specs.Answering.{Side, Expected}
use Rattle.prop_numbers.proofs.Halves.{Halves, halves, stood_rep, space_of}
use Rattle.checker.specs.Scope.{Entries}
use Rattle.checker.specs.Asking.{label_prop, term_of, Few, Judgeable}
use Rattle.checker.specs.Judging.{InfersAs, ChecksAs, Inferred, Checked}
use Rattle.checker.specs.Helping.{Bound}
use Rattle.checker.proofs.Scopes.{bound_entries, put_back}
use Rattle.checker.proofs.Answers.{derives}

-- a part is an earlier record, and can be judged
pub record Call (records code : List ℕ) (stride : ℕ) (scope : List (Option ℕ)) (mades : List Made) (m a n : ℕ) : Type 0 where
  pub less : a < m
  pub ready : Judgeable records code stride scope mades a n

module _ {records code : List ℕ} {stride : ℕ} {scope : List (Option ℕ)} {mades : List Made} {m n : ℕ} (j : Judgeable records code stride scope mades m n) where
  pub call : {scope' : List (Option ℕ)} {mades' : List Made} {a n' : ℕ} → a < m → Entries code scope' → length mades' ≡ node_limit
      → n' + nodes (term_of code stride records a) ≤ node_limit → Call records code stride scope' mades' m a n'
  call l entries slots room = record {
    less = l;
    ready = record {
      held = omega (arith, j.held);
      well = λ k h. j.well k (omega arith);
      room = room;
      slots = slots;
      ends = j.ends;
      entries = entries;
    };
  }

  -- the nodes of a part have slots
  pub few : {a : ℕ} (n' : ℕ) → a < m → n' + nodes (term_of code stride records a) ≤ node_limit → Few records a n'
  few {a} n' l room = record { held = omega (arith, j.held); size = (j.well a (omega arith)).size; props = label_prop code stride; few = room }

-- the node itself has a slot
some_node : {A : Type 0} (t : ProofTerm A) → 0 < nodes t
unfolding nodes
some_node (Rattle.definitions.specs.Term.Ident x) = omega arith
some_node (Rattle.definitions.specs.Term.Pair a b) = omega arith
some_node (Rattle.definitions.specs.Term.Named f a) = omega arith
some_node (Rattle.definitions.specs.Term.Function x l a) = omega arith
some_node (Rattle.definitions.specs.Term.Application a b) = omega arith
some_node (Rattle.definitions.specs.Term.LetIn x y a b) = omega arith
some_node (Rattle.definitions.specs.Term.Case a x b y c) = omega arith
some_node (Rattle.definitions.specs.Term.TypeAscription a l) = omega arith
some_node Rattle.definitions.specs.Term.Unit = omega arith
some_node Rattle.definitions.specs.Term.Sorry = omega arith

pub node_low : {records code : List ℕ} {stride : ℕ} {scope : List (Option ℕ)} {mades : List Made} {m n : ℕ} → Judgeable records code stride scope mades m n → n < node_limit
node_low {records} {code} {stride} {m = m} j = omega (arith, j.room, some_node (term_of code stride records m))

-- Under a binder.
module _ {code : List ℕ} {scope bound : List (Option ℕ)} {x p : ℕ} {hidden : Option ℕ} (b : Bound scope x p bound hidden) (low : x < name_space) (s : Entries code scope) where
  pub bound_in : Stood code p → Entries code bound
  bound_in stood = rw b.bound (bound_entries code scope x p low stood s)

  -- bound, called, put back
  pub restored : {called back : List (Option ℕ)} → called ≡ bound → back ≡ set called x hidden → back ≡ scope
  restored same e = e ∙ rw (same, b.bound, b.hidden) (put_back scope x (Some p) (omega (arith, s.long)))

-- both sides of what has the connective
pub side_halves : {code : List ℕ} {p end : ℕ} {c : Connective} → length code ≤ standing → Stood code p → Side code p c end → Halves code p end c
side_halves {c = c} few stood s = halves c few stood s.byte s.scanned

-- Answers.
module _ {code : List ℕ} {scope : List (Option ℕ)} {mades : List Made} {t : ProofTerm ℕ} {n : ℕ} {r : Result ℕ ℕ} (x : InfersAs code scope mades t n r) where
  pub known_answer : {p : ℕ} → r ≡ Ok p → n + nodes t ≤ node_limit → Known code mades p
  known_answer h room = record { lo = n; hi = n + nodes t; prop = (derives x h).prop; rep = (derives x h).rep; last = room }

  pub answer_space : length code ≤ standing → length mades ≡ node_limit → n + nodes t ≤ node_limit → (p : ℕ) → r ≡ Ok p → Space code mades p
  answer_space few slots room p h = space_of few slots (known_answer h room)

pub known_stood : {code : List ℕ} {mades : List Made} {p : ℕ} → Stood code p → Known code mades p
known_stood {code} {mades} {p} s = record { lo = 0; hi = 0; prop = prop_at name_space code p; rep = stood_rep s; last = omega arith }

-- what stands has a number below the limit
pub stood_low : {code : List ℕ} {p : ℕ} → Stood code p → p < number_limit
stood_low s = omega (arith, s.low)

-- an answer of the term that record m holds, in whatever way its node and its scope were found
module _ {records code : List ℕ} {stride : ℕ} {scope : List (Option ℕ)} {mades : List Made} {m n : ℕ} where
  pub inferred_at : {t : ProofTerm ℕ} {scope' : List (Option ℕ)} {mades' : List Made} {r : Result ℕ ℕ} → term_of code stride records m ≡ t → InfersAs code scope mades' t n r → scope' ≡ scope
      → Kept n (n + nodes (term_of code stride records m)) mades mades' → Inferred records code stride scope mades m n scope' mades' r
  inferred_at e x s k = record { answer = rw e x; same = s; kept = k }

  pub checked_at : {t : ProofTerm ℕ} {p : ℕ} {scope' : List (Option ℕ)} {mades' : List Made} {r : Result (Unit {0}) ℕ} → term_of code stride records m ≡ t → ChecksAs code scope t n p r → scope' ≡ scope
      → Kept n (n + nodes (term_of code stride records m)) mades mades' → Checked records code stride scope mades m n p scope' mades' r
  checked_at e x s k = record { answer = rw e x; same = s; kept = k }

pub infers_under : {code : List ℕ} {scope bound : List (Option ℕ)} {mades : List Made} {t : ProofTerm ℕ} {n k : ℕ} {r : Result ℕ ℕ} → bound ≡ scope → k ≡ n → InfersAs code bound mades t k r → InfersAs code scope mades t n r
infers_under e i x = rw (← e, ← i) x

pub checks_under : {code : List ℕ} {scope bound : List (Option ℕ)} {t : ProofTerm ℕ} {n k p : ℕ} {r : Result (Unit {0}) ℕ} → bound ≡ scope → k ≡ n → ChecksAs code bound t k p r → ChecksAs code scope t n p r
checks_under e i x = rw (← e, ← i) x

-- what is expected over the code and the slots that were lent is expected over those that they are
pub expected_here : {code code' : List ℕ} {mades mades' : List Made} {connective : Connective} {p node : ℕ} {res : Result ℕ ℕ} → (code' ≡ code) × (mades' ≡ mades)
    → Expected code' mades' p connective node res → Expected code mades p connective node res
expected_here e found = rw (e.0, e.1) at found
