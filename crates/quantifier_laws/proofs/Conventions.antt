-- The ticket's convention asks for all that accuracy needs: where no two in scope share a name, the hypothesis or the object
-- of a name and id is the latest of its name.
-- The law of the definitions, of ticket 12's families: these stand beside document 01's until code has them.
use Prim.Native.Nat.{ℕ}
use mathlib.Core.Path.{◌≡◌}
use mathlib.Core.Bool.{false}
use Rattle.std.specs.Prelude.{Some}
use mathlib.Core.List.{List, [], Memᴰ}
use Rattle.definitions.specs.Name.{Name, eq_name}
use Rattle.definitions.specs.AlphaEquality.{Nameless, nameless}
use Rattle.definitions.specs.Tree.{Identifier, ProofTreeRule, PropIsTrue, Step, ProofTree, over, Premisses}
use Rattle.definitions.specs.Prop.{Prop}
use Rattle.definitions.proofs.Names.{eq_name_refl}
use Rattle.quantifier_laws.specs.Rules.{Fact, lookup}
use Rattle.quantifier_laws.specs.Sound as sound
use Rattle.quantifier_laws.specs.Sound.{Convention, Concludes, Assumption, Scope, assume, entries, objects_of, among_entries, among_fact, context, Judgement, Deduction, and_intro, and_elim_fst, and_elim_snd, true_intro, impl_intro, impl_elim, or_intro_fst, or_intro_snd, or_elim, falsum_elim, sorry, alpha_equivalent, for_all_intro, for_all_elim, exists_intro, exists_elim, Fresh, documented, shadowing, Deduced}

-- no two in scope share a name
data Distinct : Scope → Type 0 where
  nothing : Distinct []
  added : {x : Identifier Name} {f : Fact} {hs : Scope} → Fresh x hs → Distinct hs → Distinct (assume x f hs)

-- a fresh name differs from each in scope
apart : {h : Assumption} {hs : Scope} (x : Identifier Name)
    → Fresh x hs → Memᴰ h hs → eq_name x.name h.identifier.name ≡ false
unfolding Fresh
apart x f (Memᴰ.head p) = rw p f.0
apart x f (Memᴰ.tail i) = apart x f.1 i

-- what is in scope is the latest of its name
found : (xs : List Name) {hs : Scope} {h : Assumption} → Distinct hs → Memᴰ h hs
    → lookup h.identifier.name (among_entries xs (entries hs)) ≡ Some (among_fact xs h.fact)
unfolding lookup entries among_entries
found xs {h = h} nothing x3 = elim x3 [ ]
found xs {h = h} (added f d) (Memᴰ.head p) = rw (p, eq_name_refl)
found xs {h = h} (added {x = x} f d) (Memᴰ.tail i) = rw (apart x f i) (found xs d i)

latest : {hs : Scope} {h : Assumption} → Distinct hs → Memᴰ h hs
    → lookup h.identifier.name (context hs) ≡ Some (among_fact (objects_of hs) h.fact)
unfolding context
latest {hs = hs} d i = found (objects_of hs) d i

judgement : {hs : Scope} {t : ProofTree Name} {x : Identifier Name} {d : Name}
    → Distinct hs → Judgement documented hs t x d → Judgement shadowing hs t x d
unfolding documented shadowing
judgement u (sound.Judgement.ident r f c i p) = sound.Judgement.ident r f c (latest u i) tt

widen : {hs : Scope} {t : ProofTree Name} {a : Nameless} → Distinct hs → Deduction documented hs t a → Deduction shadowing hs t a
unfolding documented shadowing
widen u (and_intro c d e) = and_intro c (widen u d) (widen u e)
widen u (and_elim_fst c d) = and_elim_fst c (widen u d)
widen u (and_elim_snd c d) = and_elim_snd c (widen u d)
widen u (true_intro c p) = true_intro c tt
widen u (impl_intro c f d) = impl_intro c tt (widen (added f u) d)
widen u (impl_elim c d e) = impl_elim c (widen u d) (widen u e)
widen u (sound.Deduction.ident c i p) = sound.Deduction.ident c (latest u i) tt
widen u (or_intro_fst c d) = or_intro_fst c (widen u d)
widen u (or_intro_snd c d) = or_intro_snd c (widen u d)
widen u (or_elim c d f e g h) = or_elim c (widen u d) tt (widen (added f u) e) tt (widen (added g u) h)
widen u (falsum_elim c d) = falsum_elim c (widen u d)
widen u (sorry c p) = sorry c tt
widen u (alpha_equivalent c p d) = alpha_equivalent c tt (widen u d)
widen u (for_all_intro c f a o d) = for_all_intro c tt a o (widen (added f u) d)
widen u (for_all_elim c e d j) = for_all_elim c e (widen u d) (judgement u j)
widen u (exists_intro c j d) = exists_intro c (judgement u j) (widen u d)
widen u (exists_elim c d f a o e g h) = exists_elim c (widen u d) tt a o e tt (widen (added g (added f u)) h)

pub deduced_shadowing : (s : List ℕ) → Deduced documented s → Deduced shadowing s
deduced_shadowing s d =
    record {
      root = d.root;
      is_admitted = d.is_admitted;
      prop = d.prop;
      deduction = widen nothing d.deduction;
    }

-- a deduction is of its root's own conclusion, up to alpha
pub record Concluded (z : Step Name) (a : Nameless) : Type 0 where
  pub prop : Prop Name
  pub conclusion : z.conclusion ≡ PropIsTrue prop
  pub form : nameless [] prop ≡ a

conclusion_of_lem : {z : Step Name} {r : ProofTreeRule} {a : Nameless} → Concludes z r a → Concluded z a
conclusion_of_lem c = record { prop = c.prop; conclusion = c.conclusion; form = c.form }

pub concludes : {v : Convention} {hs : Scope} {z : Step Name} {ps : Premisses Name} {a : Nameless}
    → Deduction v hs (over z ps) a → Concluded z a
concludes (and_intro c d e) = conclusion_of_lem c
concludes (and_elim_fst c d) = conclusion_of_lem c
concludes (and_elim_snd c d) = conclusion_of_lem c
concludes (true_intro c p) = conclusion_of_lem c
concludes (impl_intro c f d) = conclusion_of_lem c
concludes (impl_elim c d e) = conclusion_of_lem c
concludes (sound.Deduction.ident c i p) = conclusion_of_lem c
concludes (or_intro_fst c d) = conclusion_of_lem c
concludes (or_intro_snd c d) = conclusion_of_lem c
concludes (or_elim c d f e g h) = conclusion_of_lem c
concludes (falsum_elim c d) = conclusion_of_lem c
concludes (sorry c p) = conclusion_of_lem c
concludes (alpha_equivalent c p d) = conclusion_of_lem c
concludes (for_all_intro c f a o d) = conclusion_of_lem c
concludes (for_all_elim c e d j) = conclusion_of_lem c
concludes (exists_intro c j d) = conclusion_of_lem c
concludes (exists_elim c d f a o e g h) = conclusion_of_lem c
