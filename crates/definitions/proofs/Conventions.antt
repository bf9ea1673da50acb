-- Document 01's convention asks for all that the shadowing one does: where no two hypotheses in scope share a name, the hypothesis
-- of a name and id is the latest of its name.
use Prim.Native.Nat.{ℕ}
use mathlib.Core.Path.{◌≡◌, refl}
use mathlib.Core.Bool.{false}
use Rattle.std.specs.Prelude.{Some}
use mathlib.Core.List.{List, [], Memᴰ}
use Rattle.definitions.specs.Name.{Name, eq_name}
use Rattle.definitions.specs.Prop.{Prop}
use Rattle.definitions.specs.Tree.{Identifier, PropIsTrue, Step, ProofTree, over, Premisses}
use Rattle.definitions.specs.CheckingRules.{lookup}
use Rattle.definitions.specs.Sound.{Hypothesis, Hypotheses, assume, Convention, Deduction, and_intro, and_elim_fst, and_elim_snd, true_intro, impl_intro, impl_elim, ident, or_intro_fst, or_intro_snd, or_elim, falsum_elim, sorry, alpha_equivalent, Fresh, documented, context, shadowing, Deduced}
use Rattle.definitions.proofs.Names.{eq_name_refl}

-- no two hypotheses share a name
data Distinct : Hypotheses → Type 0 where
  nothing : Distinct []
  added : {x : Identifier Name} {a : Prop Name} {hs : Hypotheses} → Fresh x hs → Distinct hs → Distinct (assume x a hs)

-- a fresh name differs from that of each hypothesis in scope
apart : {h : Hypothesis} {hs : Hypotheses} (x : Identifier Name)
    → Fresh x hs → Memᴰ h hs → eq_name x.name h.identifier.name ≡ false
unfolding Fresh
apart x f (Memᴰ.head p) = rw p f.0
apart x f (Memᴰ.tail i) = apart x f.1 i

-- a hypothesis in scope is the latest of its name
latest : {hs : Hypotheses} {h : Hypothesis} → Distinct hs → Memᴰ h hs → lookup h.identifier.name (context hs) ≡ Some h.prop
unfolding lookup context
latest {h = h} nothing x3 = elim x3 [ ]
latest {h = h} (added f d) (Memᴰ.head p) = rw (p, eq_name_refl)
latest {h = h} (added {x = x} f d) (Memᴰ.tail i) = rw (apart x f i) (latest d i)

widen : {hs : Hypotheses} {t : ProofTree Name} {a : Prop Name} → Distinct hs → Deduction documented hs t a → Deduction shadowing hs t a
unfolding documented shadowing
widen u (and_intro c d e) = and_intro c (widen u d) (widen u e)
widen u (and_elim_fst c d) = and_elim_fst c (widen u d)
widen u (and_elim_snd c d) = and_elim_snd c (widen u d)
widen u (true_intro c p) = true_intro c tt
widen u (impl_intro c f d) = impl_intro c tt (widen (added f u) d)
widen u (impl_elim c d e) = impl_elim c (widen u d) (widen u e)
widen u (ident c i p) = ident c (latest u i) tt
widen u (or_intro_fst c d) = or_intro_fst c (widen u d)
widen u (or_intro_snd c d) = or_intro_snd c (widen u d)
widen u (or_elim c d f e g h) = or_elim c (widen u d) tt (widen (added f u) e) tt (widen (added g u) h)
widen u (falsum_elim c d) = falsum_elim c (widen u d)
widen u (sorry c p) = sorry c tt
widen u (alpha_equivalent c p d) = alpha_equivalent c tt (widen u d)

pub deduced_shadowing : (s : List ℕ) → Deduced documented s → Deduced shadowing s
deduced_shadowing s d =
    record {
      root = d.root;
      is_admitted = d.is_admitted;
      prop = d.prop;
      deduction = widen nothing d.deduction;
    }

-- it is of the same proposition
pub same_prop : (s : List ℕ) (d : Deduced documented s) → d.prop ≡ (deduced_shadowing s d).prop
unfolding deduced_shadowing
same_prop s d = refl

-- a deduction is of its root's own conclusion
pub concludes : {v : Convention} {hs : Hypotheses} {z : Step Name} {ps : Premisses Name} {a : Prop Name}
    → Deduction v hs (over z ps) a → z.conclusion ≡ PropIsTrue a
concludes (and_intro c d e) = c.conclusion
concludes (and_elim_fst c d) = c.conclusion
concludes (and_elim_snd c d) = c.conclusion
concludes (true_intro c p) = c.conclusion
concludes (impl_intro c f d) = c.conclusion
concludes (impl_elim c d e) = c.conclusion
concludes (ident c i p) = c.conclusion
concludes (or_intro_fst c d) = c.conclusion
concludes (or_intro_snd c d) = c.conclusion
concludes (or_elim c d f e g h) = c.conclusion
concludes (falsum_elim c d) = c.conclusion
concludes (sorry c p) = c.conclusion
concludes (alpha_equivalent c p d) = c.conclusion
