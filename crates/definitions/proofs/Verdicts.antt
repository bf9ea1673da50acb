-- How verdicts on claims combine as the answers of the comparison do, with what a 19 rests on carried along.
use mathlib.Core.Path.{◌≡◌, refl}
use mathlib.Core.Logic.Iff
use mathlib.Core.Logic.{◌↔◌, ◌⊎◌, inl, inr}
use mathlib.Core.Bool.{Bool, true, false, false≢true}
use Rattle.definitions.specs.declared.Refusal.{Refusal}
use Rattle.definitions.specs.Outcome.{Outcome, refused, accepted, refuse}
use Rattle.definitions.specs.Comparison.{no, and_also}
use Rattle.definitions.specs.AlphaEquality.{Verdict}

-- a verdict on P that tells of a 19 that O is the case
pub data Judged (P O : Type 0) : Outcome Bool → Type 0 where
  holds : P → Judged P O (accepted true)
  fails : (P → ⊥) → Judged P O (accepted false)
  unknown : O → Judged P O (refuse 19 0)

pub verdict : {P O : Type 0} {o : Outcome Bool} → Judged P O o → Verdict P o
verdict (holds p) = Verdict.holds p
verdict (fails n) = Verdict.fails n
verdict (unknown x) = Verdict.unknown

-- 19 at 0, the one refusal of a comparison
abbrev pub unbound : Refusal
unbound = record { number = 19; place = 0 }

-- what an answer says of P and O
abbrev pub Says : Type 0 → Type 0 → Outcome Bool → Type 0
Says P O (accepted true) = P
Says P O (accepted false) = P → ⊥
Says P O (refused r) = (r ≡ unbound) × O

pub says : {P O : Type 0} {o : Outcome Bool} → Judged P O o → Says P O o
unfolding refuse
says (holds p) = p
says (fails n) = n
says (unknown x) = (refl, x)

-- where O is ruled out, what holds is answered by yes
pub complete : {P O : Type 0} {o : Outcome Bool} → Judged P O o → (O → ⊥) → P → o ≡ accepted true
complete (holds p) impossible q = refl
complete (fails n) impossible q = absurd (n q)
complete (unknown x) impossible q = absurd (impossible x)

-- a test that decides the claim
pub decided : {P O : Type 0} (b : Bool) → (b ≡ true) ↔ P → Judged P O (accepted b)
decided true e = holds (e.0 refl)
decided false e = fails (λ p. false≢true (e.1 p))

-- the same answer, on an equivalent claim
pub equivalent : {P Q O R : Type 0} {o : Outcome Bool} → P ↔ Q → (O → R) → Judged P O o → Judged Q R o
equivalent e f (holds p) = holds (e.0 p)
equivalent e f (fails n) = fails (λ q. n (e.1 q))
equivalent e f (unknown x) = unknown (f x)

pub restated : {P Q O : Type 0} {o : Outcome Bool} → P ↔ Q → Judged P O o → Judged Q O o
restated e v = equivalent e (λ x. x) v

-- one claim after the other
pub both : {P Q O : Type 0} {o r : Outcome Bool} → Judged P O o → Judged Q O r → Judged (P × Q) O (and_also o r)
unfolding and_also no refuse
both (holds p) v = restated ((λ q. (p, q)), (λ h. h.1)) v
both (fails n) v = fails (λ h. n h.0)
both (unknown x) v = unknown x

-- one claim after the other, each with its own ground of a 19 on the left and on the right
pub of_parts : {P Q L R M S : Type 0} {o r : Outcome Bool}
    → Judged P (L × R) o → Judged Q (M × S) r → Judged (P × Q) ((L ⊎ M) × (R ⊎ S)) (and_also o r)
of_parts v w =
    both (equivalent Iff.rfl (λ x. (inl x.0, inl x.1)) v) (equivalent Iff.rfl (λ x. (inr x.0, inr x.1)) w)
