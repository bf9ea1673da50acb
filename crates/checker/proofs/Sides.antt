-- What has a connective has sides: of a proposition that is inferred and must have one, and of a proposition that stands.
use Prim.Native.Nat.{ℕ, ◌+◌, ◌≤◌, ◌<◌}
use mathlib.Core.Path.{◌≡◌, ap}
use mathlib.Core.Logic.{by_cases}
use Rattle.std.specs.Prelude.{Option, Some, Result, Ok, Err}
use mathlib.Core.List.{List}
use lib.ListN.{length}
use Rattle.definitions.specs.Name.{Name}
use Rattle.definitions.specs.Code.{encode}
use Rattle.definitions.specs.Term.{ProofTerm, rename_term}
use Rattle.definitions.specs.CheckingRules.{Context}
use Rattle.definitions.specs.TermText.{nodes}
use Rattle.definitions.specs.Checker.{Judged, derived, stopped, ◌>>=◌, sides, infer}
use Rattle.prefix_code.specs.PropAt.{prop_at, Present}
use Rattle.prefix_code.specs.Shape.{meant}
use Rattle.prefix_code.specs.declared.Connective.{Connective}
use Rattle.prefix_code.specs.Scan.{Scanned}
use Rattle.prop_numbers.specs.declared.Made.{Made}
use Rattle.prop_numbers.specs.Standing.{Distinct, connective_of, name_space, standing}
use Rattle.prop_numbers.specs.Answering.{Expected}
use Rattle.checker.specs.Scope.{Scoped}
use Rattle.checker.specs.Judging.{InfersAs, Means, named}
use Rattle.prop_numbers.proofs.Opening.{Sides, binary_connective, opened, sides_else}
use Rattle.prop_numbers.proofs.Fronts.{dec_connective}
use Rattle.prop_numbers.proofs.Halves.{scanned_of}
use Rattle.checker.proofs.Answers.{Deriving, not_both, stopping, derives}

-- a stop passes through
pub through : {A S B : Type 0} (o : Judged A) (h : A → Judged S) (k : S → Judged B) (n : ℕ) → (o >>= h) ≡ stopped n → (o >>= (λ a. h a >>= k)) ≡ stopped n
unfolding ◌>>=◌
through (derived a) h k n e = rw e
through (stopped j) h k n e = let same : j ≡ n = cc in ap stopped same

-- Where something inferred must have a connective, and there is none:
pub record Unopened (code : List ℕ) (scope : List (Option ℕ)) (t : ProofTerm ℕ) (n : ℕ) (c : Connective) (node k : ℕ) : Type 0 where
  pub means : (f : ℕ → Name) (g : Context) → Distinct f → Scoped f code scope g → (infer (rename_term f t) g n >>= (λ p. sides node (meant c) p)) ≡ stopped k

-- and one that has:
pub record Opening (code : List ℕ) (scope : List (Option ℕ)) (mades : List Made) (t : ProofTerm ℕ) (n : ℕ) (c : Connective) (p : ℕ) : Type 0 where
  pub derived_as : Deriving code scope mades t n p
  pub head : connective_of code mades p ≡ Some c

module _ {code : List ℕ} {scope : List (Option ℕ)} {mades : List Made} {t : ProofTerm ℕ} {n : ℕ} {r : Result ℕ ℕ} {c : Connective} (i : InfersAs code scope mades t n r) where
  -- nothing is inferred
  pub uninferred : {node k : ℕ} → r ≡ Err k → Unopened code scope t n c node k
  unfolding Means named ◌>>=◌
  uninferred h = record { means = λ f g d s. rw (stopping i h f g d s) }

  -- what is inferred is no such proposition
  pub unopened : {node p : ℕ} → r ≡ Ok p → (connective_of code mades p ≡ Some c → ⊥) → Unopened code scope t n c node node
  unfolding Means named ◌>>=◌
  unopened {node} is differs =
      let v = derives i is in
      record { means = λ f g d s. rw (v.means f g d s) (sides_else f node (meant c) v.prop (λ a b q. differs (binary_connective c a b v.rep q))) }

  pub opening : {p : ℕ} → r ≡ Ok p → connective_of code mades p ≡ Some c → Opening code scope mades t n c p
  opening is same = record { derived_as = derives i is; head = same }

  -- the same by what `with_connective` gives
  module _ {node p : ℕ} {x : Result ℕ ℕ} (is : r ≡ Ok p) (e : Expected code mades p c node x) where
    pub unopened_at : {k : ℕ} → x ≡ Err k → Unopened code scope t n c node k
    unopened_at {k} h =
        let differs : connective_of code mades p ≡ Some c → ⊥ = λ same. not_both (e.found same) h in
        let here : node ≡ k = cc (e.other differs) in
        rw (← here) (unopened is differs)

    pub opening_at : {q : ℕ} → x ≡ Ok q → Opening code scope mades t n c q
    opening_at {q} h = by_cases (dec_connective (connective_of code mades p) c)
        (λ same. let one : p ≡ q = cc (e.found same) in rw (← one) (opening is same))
        (λ other. absurd (not_both h (e.other other)))

-- Its sides.
module _ {code : List ℕ} {scope : List (Option ℕ)} {mades : List Made} {t : ProofTerm ℕ} {n res : ℕ} {c : Connective} (space : length code ≤ standing)
    (o : Opening code scope mades t n c res) where
  pub with_end : (end : ℕ) → (res < standing → Present name_space code (res + 1) → Scanned name_space code (res + 1) end) → Sides code mades n (n + nodes t) res end c o.derived_as.prop
  with_end end scanned = opened end c space o.derived_as.rep o.head scanned

  pub some_end : Sides code mades n (n + nodes t) res (res + 1 + length (encode (prop_at name_space code (res + 1)))) c o.derived_as.prop
  some_end = with_end _ (λ low. scanned_of)
