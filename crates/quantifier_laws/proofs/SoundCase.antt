-- A sound sheet of document 01 is a sound sheet of ticket 12.
use Prim.Native.Nat.{ℕ}
use mathlib.Core.Path.{◌≡◌, refl, ap, ◌∙◌}
use mathlib.Core.Bool.{true, false, and-eq-true_iff, false≢true}
use mathlib.Core.List.{List, [], ◌∷◌, map, Memᴰ}
use Rattle.definitions.specs.Name.{Name}
use Rattle.definitions.specs.Prop as prop
use Rattle.definitions.specs.Prop.{Prop, PropParameter, Uninstantiated, Instantiated}
use Rattle.definitions.specs.AlphaEquality.{nameless, object}
use Rattle.definitions.specs.Sheet.{name_of}
use Rattle.definitions.specs.Tree.{Identifier, ProofTree, prop_of}
use Rattle.definitions.specs.Sound as plain
use Rattle.definitions.specs.Sound.{all_instantiated, is_quantifier_free}
use Rattle.definitions.specs.CheckAnswers.{named_prop}
use Rattle.quantifier_laws.specs.Instantiation.{is_unbound, some_unbound, holds_unbound}
use Rattle.quantifier_laws.specs.Rules.{proves}
use Rattle.quantifier_laws.specs.Sound as sound
use Rattle.quantifier_laws.specs.Sound.{Assumption, Deduction, documented, Fresh, Sound}
use Rattle.definitions.proofs.Shape.{quantifier_free_same}
use Rattle.quantifier_laws.proofs.QuantifierFree.{Free}
use Rattle.quantifier_laws.proofs.QuantifierFreeCase.{embed, conclude}

embed_one : plain.Hypothesis → Assumption
embed_one h = record { identifier = h.identifier; fact = proves (nameless [] h.prop) }

-- a hypothesis in scope is in scope
among_embedded : (x : Identifier Name) (a : Prop Name) (hs : plain.Hypotheses) → Memᴰ (record { identifier = x; prop = a }) hs
    → Memᴰ (record { identifier = x; fact = proves (nameless [] a) }) (embed hs)
unfolding embed embed_one
among_embedded x a [] x'' = elim x'' [ ]
among_embedded x a (h ∷ hs) (Memᴰ.head p) = Memᴰ.head (ap embed_one p)
among_embedded x a (h ∷ hs) (Memᴰ.tail i) = Memᴰ.tail (among_embedded x a hs i)

fresh_embedded : (x : Identifier Name) (hs : plain.Hypotheses) → plain.Fresh x hs → Fresh x (embed hs)
unfolding plain.Fresh Fresh embed
fresh_embedded x [] f = tt
fresh_embedded x (h ∷ hs) f = (f.0, fresh_embedded x hs f.1)

deduction : {hs : plain.Hypotheses} {t : ProofTree Name} {p : Prop Name}
    → plain.Deduction plain.documented hs t p → Deduction documented (embed hs) t (nameless [] p)
unfolding plain.documented documented nameless embed
deduction (plain.and_intro c d e) = sound.and_intro (conclude c refl) (deduction d) (deduction e)
deduction (plain.and_elim_fst c d) = sound.and_elim_fst (conclude c refl) (deduction d)
deduction (plain.and_elim_snd c d) = sound.and_elim_snd (conclude c refl) (deduction d)
deduction (plain.true_intro c u) = sound.true_intro (conclude c refl) u
deduction {hs = hs} (plain.impl_intro {z = z} c n d) = sound.impl_intro (conclude c refl) (fresh_embedded z.first hs n) (deduction d)
deduction (plain.impl_elim c d e) = sound.impl_elim (conclude c refl) (deduction d) (deduction e)
deduction {hs = hs} (plain.ident {z = z} {a = a} c i u) = sound.Deduction.ident (conclude c refl) (among_embedded z.first a hs i) u
deduction (plain.or_intro_fst c d) = sound.or_intro_fst (conclude c refl) (deduction d)
deduction (plain.or_intro_snd c d) = sound.or_intro_snd (conclude c refl) (deduction d)
deduction {hs = hs} (plain.or_elim {z = z} c d n e o f) =
    sound.or_elim (conclude c refl) (deduction d) (fresh_embedded z.first hs n) (deduction e) (fresh_embedded z.second hs o) (deduction f)
deduction (plain.falsum_elim c d) = sound.falsum_elim (conclude c refl) (deduction d)
deduction (plain.sorry c u) = sound.sorry (conclude c refl) u
deduction (plain.alpha_equivalent c u d) = sound.alpha_equivalent (conclude c refl) u (deduction d)

-- without uninstantiated parameters none is unbound
parameters_bound : (ps : List (PropParameter Name)) → all_instantiated ps ≡ true → some_unbound (map (object []) ps) ≡ false
unfolding all_instantiated object some_unbound is_unbound
parameters_bound [] e = refl
parameters_bound (Uninstantiated x ∷ ps) e = absurd (false≢true e)
parameters_bound (Instantiated x i ∷ ps) e = parameters_bound ps e

pub free_bound : (p : Prop Name) → Free p → holds_unbound (nameless [] p) ≡ false
unfolding is_quantifier_free nameless holds_unbound
free_bound prop.True e = refl
free_bound prop.False e = refl
free_bound (prop.Binary c p q) e =
    let both = (and-eq-true_iff (is_quantifier_free p) (is_quantifier_free q)).0 e in
    rw (free_bound p both.0, free_bound q both.1)
free_bound (prop.Atom a ps) e = parameters_bound ps e
free_bound (prop.Quantified k x t p) e = absurd (false≢true e)

pub sound_case : (s : List ℕ) → plain.Sound s → Sound s
unfolding embed named_prop
sound_case s d =
    record {
      deduced = record {
        root = d.deduced.root;
        is_admitted = d.deduced.is_admitted;
        prop = d.deduced.prop;
        deduction = deduction d.deduced.deduction;
      };
      bound = λ i l. free_bound (named_prop s i) (quantifier_free_same (name_of s) (prop_of s i) ∙ d.props i l);
    }
