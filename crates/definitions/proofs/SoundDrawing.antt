-- The second drawing and the sheet with two labels are sound, so that the accuracy statement speaks of sheets without labels and with.
use Prim.Native.Nat.{ℕ, ◌<◌}
use mathlib.Core.Path.{◌≡◌, refl}
use mathlib.Core.Bool.{Bool, true, not}
use Rattle.std.specs.Prelude.{None}
use mathlib.Core.List.Memᴰ
use mathlib.Core.List.{[]}
use borrow.Author.Tests.{not-false}
use Rattle.definitions.specs.Utf8.{utf8}
use Rattle.definitions.specs.Outcome.{lowest}
use Rattle.definitions.specs.Name.{Name}
use Rattle.definitions.specs.Prop.{Prop, Atom, Or, Impl}
use Rattle.definitions.specs.Sound.{Sound, Concludes, and_intro, and_elim_fst, impl_intro, or_intro_fst, or_intro_snd, ident}
use Rattle.definitions.specs.Tree.{ProofTreeRule, PropIsTrue, Step, root_of}
use Rattle.definitions.specs.Drawings.{second, two_labels}
use Rattle.definitions.proofs.Everything.{everything}
use Rattle.definitions.proofs.Lowest.{all_fail}

-- a test holds at every place below the count where a search finds no place at which it fails
all_hold : (test : ℕ → Bool) (count : ℕ) → lowest (λ k. not (test k)) count ≡ None → (k : ℕ) → k < count → test k ≡ true
all_hold test count e k h = not-false (test k) (all_fail (λ k. not (test k)) count e k h)

concludes : {z : Step Name} {r : ProofTreeRule} {a : Prop Name} → z.rule ≡ r → z.conclusion ≡ PropIsTrue a → Concludes z r a
concludes r c = record { rule = r; conclusion = c }

pub second_sound : Sound second
unfolding everything
second_sound =
    record {
      deduced = record {
        root = root_of second;
        is_admitted = refl;
        prop = Impl (Atom (utf8 "A") []) (Or (Atom (utf8 "A") []) (Atom (utf8 "B") []));
        deduction = impl_intro (concludes refl refl) tt
            (or_intro_fst (concludes refl refl)
            (ident (concludes refl refl) (Memᴰ.head refl) refl));
      };
      rules = all_hold _ _ refl;
      props = all_hold _ _ refl;
      conclusions = all_hold _ _ refl;
    }

pub two_labels_sound : Sound two_labels
unfolding everything
two_labels_sound =
    record {
      deduced = record {
        root = root_of two_labels;
        is_admitted = refl;
        prop = Impl (Atom (utf8 "A") []) (Or (Atom (utf8 "A") []) (Atom (utf8 "A") []));
        deduction = impl_intro (concludes refl refl) tt
            (and_elim_fst (concludes refl refl)
            (and_intro (concludes refl refl)
            (or_intro_fst (concludes refl refl)
            (ident (concludes refl refl) (Memᴰ.head refl) refl))
            (or_intro_snd (concludes refl refl)
            (ident (concludes refl refl) (Memᴰ.head refl) refl))));
      };
      rules = all_hold _ _ refl;
      props = all_hold _ _ refl;
      conclusions = all_hold _ _ refl;
    }
