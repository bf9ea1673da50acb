-- The test whether a name is new decides whether it stands in no hypothesis that a later entry does not hide.
use mathlib.Core.Path.{◌≡◌, refl, ap}
use mathlib.Core.Bool.{Bool, true, false, ◌||◌, not, cond, and-eq-true_iff}
use Rattle.std.specs.Prelude.{Option, Some}
use mathlib.Core.List.{List, [], ◌∷◌}
use native.Mathlib.Omega.{arith}
use Rattle.definitions.specs.Name.{Name, eq_name}
use Rattle.definitions.specs.AlphaEquality.{Nameless}
use Rattle.definitions.proofs.Names.{eq_name_refl, eq_name_true}
use Rattle.quantifier_laws.specs.Instantiation.{stands, is_among}
use Rattle.quantifier_laws.specs.Rules.{Fact, proves, object_of, Entry, Context, lookup, New}
use Rattle.quantifier_laws.specs.Checker.{stands_in, is_new_after, is_new}
use Rattle.quantifier_laws.proofs.Instantiation.{left_false, right_false}

-- the name stands in no hypothesis that is found by a name other than these
abbrev NewAfter : List Name → Name → Context → Type 0
NewAfter hidden x g = (y : Name) (a : Nameless) → is_among y hidden ≡ false → lookup y g ≡ Some (proves a) → stands x a ≡ false

-- the entry itself
here : (hidden : List Name) (x : Name) (f : Fact) (a : Nameless) (b : Bool) → b ≡ false → (b || not (stands_in x f)) ≡ true
    → ◌≡◌ {A = Option Fact} (Some f) (Some (proves a)) → stands x a ≡ false
unfolding stands_in
here hidden x (proves c) a true h e l = absurd (grind arith)
here hidden x (proves c) a false h e l = let same : c ≡ a = cc in rw same at (not_true (stands x c) e)
  where
    not_true : (b : Bool) → not b ≡ true → b ≡ false
    not_true true e = absurd (grind arith)
    not_true false e = refl
here hidden x (object_of d) a b h e l = absurd (grind arith)

sound : (hidden : List Name) (x : Name) (g : Context) → is_new_after hidden x g ≡ true → NewAfter hidden x g
unfolding is_new_after lookup is_among
sound hidden x [] e y a h l = absurd (grind arith)
sound hidden x (f ∷ g) e y a h l =
    let both = (and-eq-true_iff (is_among f.name hidden || not (stands_in x f.fact)) (is_new_after (f.name ∷ hidden) x g)).0 e in
    go (eq_name f.name y) refl both.0 (λ k m. sound (f.name ∷ hidden) x g both.1 y a k m) l
  where
    go : (b : Bool) → eq_name f.name y ≡ b → (is_among f.name hidden || not (stands_in x f.fact)) ≡ true
        → (is_among y (f.name ∷ hidden) ≡ false → lookup y g ≡ Some (proves a) → stands x a ≡ false)
        → cond b (Some f.fact) (lookup y g) ≡ Some (proves a) → stands x a ≡ false
    go true same own rest l = here hidden x f.fact a (is_among f.name hidden) (rw (eq_name_true same) h) own l
    go false same own rest l = rest (rw same h) l

pub new_sound : (x : Name) (g : Context) → is_new x g ≡ true → New x g
unfolding is_new New is_among
new_sound x g e y a l = sound [] x g e y a refl l

own_true : (hidden : List Name) (x : Name) (f : Entry) (g : Context) → NewAfter hidden x (f ∷ g)
    → (b : Bool) → is_among f.name hidden ≡ b → (k : Fact) → f.fact ≡ k → (b || not (stands_in x k)) ≡ true
unfolding lookup stands_in
own_true hidden x f g h true e k s = refl
own_true hidden x f g h false e (proves a) s = rw (h f.name a e (rw (eq_name_refl f.name) (ap Some s)))
own_true hidden x f g h false e (object_of d) s = refl

complete : (hidden : List Name) (x : Name) (g : Context) → NewAfter hidden x g → is_new_after hidden x g ≡ true
unfolding is_new_after lookup is_among
complete hidden x [] h = refl
complete hidden x (f ∷ g) h =
    (and-eq-true_iff (is_among f.name hidden || not (stands_in x f.fact)) (is_new_after (f.name ∷ hidden) x g)).1
    (own_true hidden x f g h (is_among f.name hidden) refl f.fact refl, complete (f.name ∷ hidden) x g (rest h))
  where
    rest : NewAfter hidden x (f ∷ g) → NewAfter (f.name ∷ hidden) x g
    rest h y a e l = later e
      where
        later : is_among y (f.name ∷ hidden) ≡ false → stands x a ≡ false
        later e =
            let apart = left_false (eq_name f.name y) (is_among y hidden) e in
            h y a (right_false (eq_name f.name y) (is_among y hidden) e) (rw apart l)

pub new_complete : (x : Name) (g : Context) → New x g → is_new x g ≡ true
unfolding is_new New
new_complete x g h = complete [] x g (λ y a e l. h y a l)
