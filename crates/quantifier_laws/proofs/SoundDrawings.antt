-- The drawings with quantifiers are sound, so that the accuracy statement speaks of sheets with all four rules.
use mathlib.Core.Path.{◌≡◌, refl}
use mathlib.Core.List.Memᴰ
use mathlib.Core.List.{[], ◌∷◌}
use Rattle.definitions.specs.Utf8.{utf8}
use Rattle.definitions.specs.Outcome.{accepted}
use Rattle.definitions.specs.declared.Style.TheVariants.{Plain}
use Rattle.definitions.specs.Prop as prop
use Rattle.definitions.specs.Prop.{Uninstantiated}
use Rattle.definitions.specs.Tree.{root_of}
use Rattle.definitions.specs.Answers.{text_answer}
use Rattle.definitions.proofs.Everything.{everything}
use Rattle.quantifier_laws.specs.Instantiation as inst
use Rattle.definitions.specs.AlphaEquality.{bound, Atom}
use Rattle.definitions.specs.CheckAnswers as answers
use Rattle.quantifier_laws.specs.Rules.{proves}
use Rattle.quantifier_laws.specs.Sound as sound
use Rattle.quantifier_laws.specs.Sound.{assume, Sound, documented, impl_intro, for_all_intro, for_all_elim, exists_intro, exists_elim}
use Rattle.quantifier_laws.specs.Drawings as drawings
use Rattle.quantifier_laws.specs.Drawings.{universal, existential}
use Rattle.definitions.proofs.Lowest.{all_fail}

-- what the drawings and the definitions of quantifiers are made of
all : Unit {0}
unfolding everything inst.instantiate_object inst.instantiate_at inst.instantiate inst.has_name inst.some_has_name inst.stands inst.is_unbound inst.some_unbound inst.holds_unbound sound.AbsentFact sound.Absent sound.Fresh sound.documented answers.named_prop drawings.seventh drawings.judgement drawings.of_bound drawings.of_object drawings.universal drawings.existential
all = tt

pub universal_sound : Sound universal
unfolding all
universal_sound =
    record {
      deduced = record {
        root = root_of universal;
        is_admitted = refl;
        prop = prop.Impl (prop.ForAll (utf8 "y") (utf8 "T") (prop.Atom (utf8 "P") (Uninstantiated (utf8 "y") ∷ [])))
            (prop.ForAll (utf8 "z") (utf8 "T") (prop.Atom (utf8 "P") (Uninstantiated (utf8 "z") ∷ [])));
        deduction = impl_intro (record { rule = refl; prop = _; conclusion = refl; form = refl }) tt
            (for_all_intro {hs = assume (record { name = utf8 "u"; unique_id = 0 })
            (proves (inst.ForAll (utf8 "T") (Atom (utf8 "P") (bound 0 ∷ [])))) []} (record { rule = refl; prop = _; conclusion = refl; form = refl }) (refl, tt) (refl, tt) refl
            (for_all_elim (record { rule = refl; prop = _; conclusion = refl; form = refl }) refl
            (sound.Deduction.ident (record { rule = refl; prop = _; conclusion = refl; form = refl }) (Memᴰ.tail (Memᴰ.head refl)) refl)
            (sound.Judgement.ident refl refl refl (Memᴰ.head refl) refl)));
      };
      bound = all_fail _ 4 refl;
    }

pub existential_sound : Sound existential
unfolding all
existential_sound =
    record {
      deduced = record {
        root = root_of existential;
        is_admitted = refl;
        prop = prop.Impl (prop.Exists (utf8 "y") (utf8 "T") (prop.Atom (utf8 "P") (Uninstantiated (utf8 "y") ∷ [])))
            (prop.Exists (utf8 "z") (utf8 "T") (prop.Atom (utf8 "P") (Uninstantiated (utf8 "z") ∷ [])));
        deduction = impl_intro (record { rule = refl; prop = _; conclusion = refl; form = refl }) tt
            (exists_elim (record { rule = refl; prop = _; conclusion = refl; form = refl })
            (sound.Deduction.ident (record { rule = refl; prop = _; conclusion = refl; form = refl }) (Memᴰ.head refl) refl)
            (refl, tt) (refl, tt) refl refl (refl, (refl, tt))
            (exists_intro (record { rule = refl; prop = _; conclusion = refl; form = refl })
            (sound.Judgement.ident refl refl refl (Memᴰ.tail (Memᴰ.head refl)) refl)
            (sound.Deduction.ident (record { rule = refl; prop = _; conclusion = refl; form = refl }) (Memᴰ.head refl) refl)));
      };
      bound = all_fail _ 4 refl;
    }

pub universal_text : text_answer universal 1 Plain 100 ≡ accepted (utf8 "atom P(1);\ndatatype T;\n\nfn u => fn x => u x")
unfolding all
universal_text = refl

pub existential_text : text_answer existential 1 Plain 100 ≡ accepted (utf8 "atom P(1);\ndatatype T;\n\nfn v => let (x, h) = v in (x, h)")
unfolding all
existential_text = refl
