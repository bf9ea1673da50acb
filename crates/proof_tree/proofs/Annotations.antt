-- The label of a function's parameter as an annotation: none, that of a kind and a number, or a refusal.
use Prim.Native.Nat.{ℕ, ◌<◌}
use mathlib.Core.Path.{◌≡◌, refl, ap}
use mathlib.Core.Logic.{◌⊎◌, inl, inr}
use Rattle.std.specs.Prelude.{Option, None, Some, Ok, Err}
use mathlib.Core.List.{List}
use native.Mathlib.Omega.{arith}
use Rattle.definitions.specs.Outcome.{Outcome, accepted, map_outcome, refuse}
use Rattle.definitions.specs.declared.Refusal.{Refusal}
use Rattle.definitions.specs.Sheet.{pair_offset}
use Rattle.definitions.specs.Term as term
use Rattle.definitions.specs.Tree as tree
use Rattle.definitions.specs.Tree.{ProofTreeConclusion}
use Rattle.definitions.specs.Export.{left_label, datatype_label}
use Rattle.prefix_code.specs.PropAt.{prop_at, Present}
use Rattle.definitions.proofs.PrefixCode.{Bytes}
use Rattle.prefix_code.specs.declared.Connective.{Connective}
use Rattle.prefix_code.specs.declared.Connective.TheVariants.{Impl}
use Rattle.prefix_code.specs.declared.Quantifier.{Quantifier}
use Rattle.prefix_code.specs.declared.Quantifier.TheVariants.{ForAll}
use Rattle.prefix_code.specs.declared.Shape.{Shape}
use Rattle.prefix_code.specs.declared.Shape.TheVariants.{Binary, Quantified}
use Rattle.prefix_code.specs.Shape.{ShapeOf}
use Rattle.prefix_code.proofs.Shapes.{implication_at}
use Rattle.steps.specs.declared.Conclusion.{Conclusion}
use Rattle.steps.specs.declared.Conclusion.TheVariants.{PropIsTrue, TypeJudgement}
use Rattle.proof_term.specs.declared.nodes.Label.TheVariants.{Proposition, Datatype}
use Rattle.proof_tree.specs.declared.table.Ending.{Ending}
use Rattle.proof_tree.specs.declared.table.Ending.TheVariants.{Bare, Ascribed, LeftLabelled, DatatypeLabelled, PremissOwn}
use Rattle.proof_tree.specs.Table.{ending_of}
use Rattle.proof_tree.specs.Labelling.{left_label_of, datatype_label_of, parameter_label_of, Means, stands, judges, Opened, ShapeFound, judged, opened, Annotated, labelled, refuses, LeftSide}
use Rattle.proof_tree.specs.Opening.{Readable, offset_of}
use Rattle.proof_tree.proofs.Conclusions.{left_fits, datatype_fits, implication_label_lem, no_implication, universal_label_lem, no_universal}

no_parameter : (e : Ending) (k : ℕ) (c : ProofTreeConclusion ℕ) → (e ≡ Bare) ⊎ ((e ≡ Ascribed) ⊎ (e ≡ PremissOwn))
    → parameter_label_of (ending_of e) k c ≡ accepted None
unfolding parameter_label_of ending_of
no_parameter Bare k c h = refl
no_parameter Ascribed k c h = refl
no_parameter LeftLabelled k c h = elim h [ inl is ↦ cc | inr more ↦ elim more [ inl is ↦ cc | inr is ↦ cc ] ]
no_parameter DatatypeLabelled k c h = elim h [ inl is ↦ cc | inr more ↦ elim more [ inl is ↦ cc | inr is ↦ cc ] ]
no_parameter PremissOwn k c h = refl

-- no function with a label is made
pub unlabelled : (names : ℕ) (pairs code : List ℕ) (e : Ending) (c : Conclusion) (k : ℕ) (m : ProofTreeConclusion ℕ) → (e ≡ Bare) ⊎ ((e ≡ Ascribed) ⊎ (e ≡ PremissOwn))
    → Annotated names pairs code c (parameter_label_of (ending_of e) k m) (Ok None)
unlabelled names pairs code e c k m h =
    labelled {l = None} (record { is = no_parameter e k m h; left = λ number z. absurd (grind arith) })

-- a proposition that stands at its pair's offset
pub record Stated (names : ℕ) (pairs code : List ℕ) (p : ℕ) (m : ProofTreeConclusion ℕ) : Type 0 where
  pub here : Present names code (pair_offset pairs p)
  pub is : m ≡ tree.PropIsTrue (prop_at names code (pair_offset pairs p))

stated_as : {names : ℕ} {pairs code : List ℕ} {p : ℕ} {m : ProofTreeConclusion ℕ} → Means names pairs code (PropIsTrue p) m → Stated names pairs code p m
stated_as (stands s) = record { here = s; is = refl }

-- the shape that stands at its offset is that of its proposition
pub shape_found : {pairs code : List ℕ} {at : ℕ} {s : Shape} (c : Conclusion) → offset_of pairs c ≡ Some at
    → ((names : ℕ) → Present names code at → ShapeOf names code at s) → ShapeFound pairs code c (Some s)
shape_found {pairs} {at = at} (PropIsTrue p) is shape =
    let here : at ≡ pair_offset pairs p = cc in opened (record { proposition = p; concludes = refl; shape = rw here at shape })
shape_found (TypeJudgement x) is shape = absurd (grind arith)

opened_as : {pairs code : List ℕ} {c : Conclusion} {o : Option Shape} {s : Shape} → ShapeFound pairs code c o → o ≡ Some s → Opened pairs code c s
opened_as (judged none) is = absurd (grind arith)
opened_as {s = s} (opened {s = t} o) is = let same : t ≡ s = cc in rw same at o

-- a type judgement gives no label
left_judged : {names : ℕ} {pairs code : List ℕ} {c : Conclusion} {m : ProofTreeConclusion ℕ} → Means names pairs code c m → offset_of pairs c ≡ None
    → (k : ℕ) → left_label k m ≡ refuse 14 k
unfolding left_label
left_judged judges none k = refl
left_judged (stands s) none k = absurd (grind arith)

datatype_judged : {names : ℕ} {pairs code : List ℕ} {c : Conclusion} {m : ProofTreeConclusion ℕ} → Means names pairs code c m → offset_of pairs c ≡ None
    → (k : ℕ) → datatype_label k m ≡ refuse 15 k
unfolding datatype_label
datatype_judged judges none k = refl
datatype_judged (stands s) none k = absurd (grind arith)

-- Of a conclusion that is taken apart for a label:
module _ {names : ℕ} {pairs code : List ℕ} {c : Conclusion} {m : ProofTreeConclusion ℕ} (means : Means names pairs code c m) where
  pub stated : {p : ℕ} → c ≡ PropIsTrue p → Stated names pairs code p m
  stated is = stated_as (rw is at means)

  refused_label : {o : Outcome (term.Label ℕ)} {number k : ℕ} {r : Refusal} → o ≡ refuse number k → r ≡ record { number = number; place = k }
      → Annotated names pairs code c (map_outcome Some o) (Err r)
  unfolding map_outcome refuse
  refused_label {r = r} e is = refuses {r = r} (rw (e, is))

  -- what is said of the label of its proposition
  module _ {s : Shape} (o : Opened pairs code c s) where
    is_shape : ShapeOf names code (pair_offset pairs o.proposition) s
    is_shape = o.shape names (stated o.concludes).here

    no_label : (label : ProofTreeConclusion ℕ → Outcome (term.Label ℕ)) {number k : ℕ} {r : Refusal}
        → label (tree.PropIsTrue (prop_at names code (pair_offset pairs o.proposition))) ≡ refuse number k
        → r ≡ record { number = number; place = k } → Annotated names pairs code c (map_outcome Some (label m)) (Err r)
    no_label label e is = rw (stated o.concludes).is (refused_label e is)

  -- no left side and no datatype of a type judgement, or of a proposition of another shape
  pub no_left : {o : Option Shape} → ShapeFound pairs code c o → {k : ℕ} {r : Refusal} → ((left : ℕ) → o ≡ Some (Binary Impl left) → ⊥)
      → r ≡ record { number = 14; place = k } → Annotated names pairs code c (left_label_of k m) (Err r)
  unfolding left_label_of
  no_left (judged none) {k} other = refused_label (left_judged means none k)
  no_left (opened o) {k} other = no_label o (left_label k) (no_implication k (is_shape o) (λ left is. other left (ap Some is)))

  pub no_datatype : {o : Option Shape} → ShapeFound pairs code c o → {k : ℕ} {r : Refusal}
      → ((object d body : ℕ) → o ≡ Some (Quantified ForAll object d body) → ⊥)
      → r ≡ record { number = 15; place = k } → Annotated names pairs code c (datatype_label_of k m) (Err r)
  unfolding datatype_label_of
  no_datatype (judged none) {k} other = refused_label (datatype_judged means none k)
  no_datatype (opened o) {k} other = no_label o (datatype_label k) (no_universal k (is_shape o) (λ x d b is. other x d b (ap Some is)))

  -- those of the shape that was found
  module _ {o : Option Shape} (found : ShapeFound pairs code c o) (k : ℕ) where
    pub left_side : {left : ℕ} → o ≡ Some (Binary Impl left) → Annotated names pairs code c (left_label_of k m) (Ok (Some (Proposition left)))
    unfolding left_label_of map_outcome
    left_side {left} same =
        let here = opened_as found same in
        let its = stated here.concludes in
        let implies : LeftSide pairs code c left =
        record { proposition = here.proposition; concludes = here.concludes; implies = implication_at its.here (is_shape here) } in
        labelled {l = Some (Proposition left)} (record {
          is = rw (its.is, implication_label_lem k (is_shape here) refl);
          left = λ number z. let same : left ≡ number = cc in rw same at implies;
        })

    pub datatype : {object d body : ℕ} → o ≡ Some (Quantified ForAll object d body)
        → Annotated names pairs code c (datatype_label_of k m) (Ok (Some (Datatype d)))
    unfolding datatype_label_of map_outcome
    datatype {d = d} same =
        let here = opened_as found same in
        labelled {l = Some (Datatype d)} (record {
          is = rw ((stated here.concludes).is, universal_label_lem k (is_shape here) refl);
          left = λ number z. absurd (grind arith);
        })

-- the left side and the datatype fit a u16
module _ {pairs code : List ℕ} {c : Conclusion} {o : Option Shape} (r : Readable pairs code c) (found : ShapeFound pairs code c o) where
  pub left_small : {connective : Connective} {left : ℕ} → o ≡ Some (Binary connective left) → left < 65536
  left_small same =
      let o = opened_as found same in
      let here = (r.stands o.proposition o.concludes).present in left_fits here r.short (o.shape _ here)

  pub datatype_small : Bytes code → {quantifier : Quantifier} {object d body : ℕ} → o ≡ Some (Quantified quantifier object d body) → d < 65536
  datatype_small bytes same =
      let o = opened_as found same in datatype_fits bytes (o.shape _ (r.stands o.proposition o.concludes).present)
