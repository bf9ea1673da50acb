-- Readings and what holds of whatever they give.
use Prim.Native.Nat.{ℕ}
use mathlib.Core.Path.{◌≡◌, refl}
use Rattle.std.specs.Prelude.{Option, None, Some}
use mathlib.Core.List.{List}
use lib.ListN.{drop}
use Rattle.definitions.specs.Code.{Read, Reading, followed_by}
use Rattle.definitions.proofs.Readings.{given}
use Rattle.reading_laws.proofs.TermConventions.{Gives}

-- what holds of everything that may be read
pub gives_from : {A : Type 0} (m : Option (Read A)) (P : A → List ℕ → Type 0) → ((x : Read A) → m ≡ Some x → P x.value x.rest) → Gives m P
unfolding Gives
gives_from None P h = tt
gives_from (Some x) P h = h x refl

-- what holds of everything that may be read holds of what is read
pub gives_holds : {A : Type 0} (m : Option (Read A)) (P : A → List ℕ → Type 0) (a : A) (s : List ℕ) → Gives m P → m ≡ given a s → P a s
unfolding Gives
gives_holds m P a s h e = rw e at h

-- less may be asked of it
pub gives_more : {A : Type 0} (m : Option (Read A)) (P Q : A → List ℕ → Type 0) → Gives m P → ((a : A) (s : List ℕ) → P a s → Q a s) → Gives m Q
unfolding Gives
gives_more None P Q h k = tt
gives_more (Some r) P Q h k = k r.value r.rest h

-- whatever is read
pub gives_any : {A : Type 0} (m : Option (Read A)) → Gives m (λ a rest. Prim.Unit {0})
unfolding Gives
gives_any None = tt
gives_any (Some x) = tt

-- what never goes on fails
pub follows_none : {A B : Type 0} (x : Option (Read A)) (next : A → Reading B) → ((a : A) (s : List ℕ) → next a s ≡ None) → followed_by x next ≡ None
unfolding followed_by
follows_none None next h = refl
follows_none (Some r) next h = h r.value r.rest

-- the same of the same bytes
pub gives_at : {A : Type 0} (m : Reading A) (at : ℕ) (P : A → List ℕ → Type 0) {s t : List ℕ} → s ≡ t → Gives (m (drop at s)) P → Gives (m (drop at t)) P
gives_at m at P e h = rw e at h

pub reads_at : {A : Type 0} (m : Reading A) (at r : ℕ) (a : A) {s t : List ℕ} → s ≡ t → m (drop at s) ≡ given a (drop r s) → m (drop at t) ≡ given a (drop r t)
reads_at m at r a e h = rw e at h
