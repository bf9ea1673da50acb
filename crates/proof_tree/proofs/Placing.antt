-- A step's term in its mode, in three parts: the label of a parameter, the term of the rule, an ascription.
use Prim.Native.Nat.{ℕ, ◌+◌, ◌-◌, ◌<◌, ◌≤◌}
use mathlib.Core.Path.{◌≡◌, refl, sym, ap, ◌∙◌}
use mathlib.Core.Logic.{by_cases}
use Rattle.std.specs.Prelude.{Option, None, Some, Result, Ok, Err, ℕ}
use mathlib.Core.List.{List, [], ◌∷◌}
use native.Mathlib.Omega.{arith}
use lib.ListN.{length}
use native.Mathlib.Decide.{dec_lt}
use Rattle.definitions.specs.Outcome.{Outcome, accepted, refused, refuse, ◌>>=◌, map_outcome}
use Rattle.definitions.specs.declared.Refusal.{Refusal}
use Rattle.definitions.specs.Prop.{Prop}
use Rattle.definitions.specs.Sheet.{pair_offset}
use Rattle.definitions.specs.Tree as tree
use Rattle.definitions.specs.Tree.{ProofTreeConclusion, Step, rule_in, identifier_in, conclusion_in, step_in}
use Rattle.definitions.specs.Term.{Label, proposition, ProofTerm, TypeAscription, of_labels}
use Rattle.definitions.specs.Export.{Place, checking, inferring, Ending, bare, ascribed, left_labelled, datatype_labelled, premiss_own, ending, ascription_label, left_label, datatype_label, step_term, inferring_term, placed_term}
use Rattle.definitions.proofs.PrefixCode.{Bytes}
use Rattle.proof_term.specs.declared.nodes.Label as own-label
use Rattle.proof_term.specs.Records.{term_at}
use Rattle.proof_term.specs.Views.{parameter_meant}
use Rattle.proof_term.specs.Making.{Made}
use Rattle.proof_term.specs.Labels.{single}
use Rattle.proof_term.proofs.Labels.{record_kept}
use Rattle.proof_term.proofs.Making.{kept_then}
use Rattle.proof_tree.specs.declared.table.ReasoningMode as own
use Rattle.proof_tree.specs.declared.table.Ending as own-ending
use Rattle.proof_tree.specs.declared.table.Ending.TheVariants.{Bare, Ascribed, LeftLabelled, DatatypeLabelled, PremissOwn}
use Rattle.proof_tree.specs.declared.table.Row.{Row}
use Rattle.steps.specs.declared.Conclusion.{Conclusion}
use Rattle.steps.specs.declared.Conclusion.TheVariants.{PropIsTrue, TypeJudgement}
use Rattle.steps.specs.declared.Step as view
use Rattle.steps.specs.StepAt.{identifier_at, step_at}
use Rattle.proof_tree.specs.Table.{mode_of, ending_of, TableRow}
use Rattle.prefix_code.specs.PropAt.{prop_at}
use Rattle.proof_tree.specs.Terms.{HasProposition, term_over, part_terms, Ordered, MadeTerm}
use Rattle.proof_tree.specs.Exportable.{GoodStep}
use Rattle.proof_tree.specs.Opening.{Paired, offset_of}
use Rattle.proof_tree.specs.Labelling.{ending_at, left_label_of, datatype_label_of, parameter_label_of, Means, stands, judges, LabelOf, Annotated, labelled}
use Rattle.proof_tree.specs.Labelling as labelling
use Rattle.proof_tree.specs.Wrapping as wrapping
use Rattle.proof_tree.specs.Wrapping.{Wrapped, ascribes, counted}
use Rattle.proof_tree.specs.Exporting.{LabelOffset, Answered, gives, refuses}
use Rattle.proof_tree.proofs.Ordering.{ascribed_ordered}
use Rattle.proof_tree.proofs.Makers.{same_number}
use Rattle.proof_tree.proofs.Concluding.{whole_offset, left_offset}

-- the term that a step's term becomes by its ending
finishing : Ending → Step ℕ → ProofTerm ℕ → Outcome (ProofTerm ℕ)
finishing bare z t = accepted t
finishing premiss_own z t = accepted t
finishing left_labelled z t = accepted t
finishing datatype_labelled z t = accepted t
finishing ascribed z t = do
  l ← ascription_label z.number z.conclusion
  accepted (TypeAscription t l)

module _ (z : Step ℕ) (ts : List (ProofTerm ℕ)) where
  inferring_parts : (e : Ending) → inferring_term e z ts ≡ (parameter_label_of e z.number z.conclusion >>= λ l. finishing e z (step_term z l ts))
  unfolding inferring_term parameter_label_of left_label_of datatype_label_of finishing ◌>>=◌ map_outcome
  inferring_parts bare = refl
  inferring_parts premiss_own = refl
  inferring_parts ascribed = refl
  inferring_parts left_labelled = go (left_label z.number z.conclusion)
    where
      go : (o : Outcome (Label ℕ)) → (o >>= λ l. accepted (step_term z (Some l) ts)) ≡ (map_outcome Some o >>= λ l. accepted (step_term z l ts))
      go (refused r) = refl
      go (accepted l) = refl
  inferring_parts datatype_labelled = go (datatype_label z.number z.conclusion)
    where
      go : (o : Outcome (Label ℕ)) → (o >>= λ l. accepted (step_term z (Some l) ts)) ≡ (map_outcome Some o >>= λ l. accepted (step_term z l ts))
      go (refused r) = refl
      go (accepted l) = refl

  placed_parts : (m : Place) → placed_term m z ts ≡ inferring_term (ending_at m (ending z.rule)) z ts
  unfolding placed_term ending_at inferring_term
  placed_parts checking = refl
  placed_parts inferring = refl

-- only an ascribed term becomes another
unascribed : (e : own-ending.Ending) (z : Step ℕ) (t : ProofTerm ℕ) → (e ≡ Ascribed → ⊥) → finishing (ending_of e) z t ≡ accepted t
unfolding finishing ending_of
unascribed Bare z t h = refl
unascribed Ascribed z t h = absurd (h refl)
unascribed LeftLabelled z t h = refl
unascribed DatatypeLabelled z t h = refl
unascribed PremissOwn z t h = refl

-- the newest term ascribed with the proposition at its pair's offset, if there is one
pub wrapped : {pairs before after : List ℕ} {k used next at : ℕ} (c : Conclusion) → offset_of pairs c ≡ Some at
    → Made (λ props part. TypeAscription (part (used - 1)) (proposition (props at))) before used after next
    → Wrapped pairs k before used after c (Ok next)
wrapped {pairs} {at = at} (PropIsTrue p) is made = let here : at ≡ pair_offset pairs p = cc in ascribes (rw here at made)
wrapped (TypeJudgement x) is made = absurd (grind arith)

pub not_wrapped : {pairs before after : List ℕ} {k used : ℕ} {r : Refusal} (c : Conclusion) → offset_of pairs c ≡ None
    → r ≡ record { number = 13; place = k } → Wrapped pairs k before used after c (Err r)
not_wrapped (PropIsTrue p) none is = absurd (grind arith)
not_wrapped (TypeJudgement x) none is = wrapping.refuses is

pub offset_fits : {pairs : List ℕ} {at : ℕ} (c : Conclusion) → Paired pairs c → offset_of pairs c ≡ Some at → at < 65536
offset_fits {pairs} {at} (PropIsTrue p) paired is = let here : at ≡ pair_offset pairs p = cc in rw here (paired.fits p refl)
offset_fits (TypeJudgement x) paired is = absurd (grind arith)

-- what ascribing a term comes to
pub data Ascription (names : ℕ) (pairs code : List ℕ) (k : ℕ) (c : Conclusion) (m : ProofTreeConclusion ℕ) (before : List ℕ) (used : ℕ) (after : List ℕ) : Result ℕ Refusal → Type 0 where
  is_ascribed : {p next : ℕ} → c ≡ PropIsTrue p → m ≡ tree.PropIsTrue (prop_at names code (pair_offset pairs p))
      → Made (λ props part. TypeAscription (part (used - 1)) (proposition (props (pair_offset pairs p)))) before used after next
      → Ascription names pairs code k c m before used after (Ok next)
  is_refused : {r : Refusal} → ascription_label k m ≡ refuse 13 k → r ≡ record { number = 13; place = k } → Ascription names pairs code k c m before used after (Err r)

pub ascription : {names : ℕ} {pairs code : List ℕ} {k : ℕ} {c : Conclusion} {m : ProofTreeConclusion ℕ} {before : List ℕ} {used : ℕ} {after : List ℕ} {r : Result ℕ Refusal}
    → Means names pairs code c m → Wrapped pairs k before used after c r → Ascription names pairs code k c m before used after r
unfolding ascription_label
ascription (stands s) (ascribes made) = is_ascribed refl refl made
ascription judges (wrapping.refuses e) = is_refused refl e

pub label_of : {names : ℕ} {pairs code : List ℕ} {c : Conclusion} {o : Outcome (Option (Label ℕ))} {l : Option own-label.Label}
    → Annotated names pairs code c o (Ok l) → LabelOf names pairs code c o l
label_of (labelled l) = l

refusal_of : {names : ℕ} {pairs code : List ℕ} {c : Conclusion} {o : Outcome (Option (Label ℕ))} {r : Refusal}
    → Annotated names pairs code c o (Err r) → o ≡ refused r
refusal_of (labelling.refuses e) = e

-- a refusal counts nothing
pub counted_refused : {A : Type 0} (next : ℕ) {x : Result A Refusal} {r : Refusal} → x ≡ Err r → counted next x ≡ Err r
counted_refused next e = rw e

-- step k as a value, its row, and its ending in its mode
pub record Visited (names : ℕ) (pairs code records : List ℕ) (k : ℕ) (mode : own.ReasoningMode) (row : Row) (e : own-ending.Ending) (z : view.Step) : Type 0 where
  pub good : GoodStep names pairs code records k
  pub is_row : TableRow (rule_in records k) row
  pub ends : ending_of e ≡ ending_at (mode_of mode) (ending_of row.ending)
  pub bytes : Bytes code
  pub is_step : z ≡ step_at records k

module _ {names : ℕ} {pairs code records : List ℕ} {k : ℕ} {mode : own.ReasoningMode} {row : Row} {e : own-ending.Ending} {z : view.Step} (v : Visited names pairs code records k mode row e z) where
  abbrev pub c : Conclusion
  c = z.conclusion

  pub concluded : c ≡ (step_at records k).conclusion
  concluded = ap (λ (z : view.Step). z.conclusion) v.is_step

  abbrev pub label : Outcome (Option (Label ℕ))
  label = parameter_label_of (ending_of e) k (conclusion_in names pairs code records k)

  abbrev pub placed : List (ProofTerm ℕ) → Outcome (ProofTerm ℕ)
  placed ts = placed_term (mode_of mode) (step_in names pairs code records k) ts

  placed_is : (ts : List (ProofTerm ℕ)) → placed ts ≡ (label >>= λ l. finishing (ending_of e) (step_in names pairs code records k) (step_term (step_in names pairs code records k) l ts))
  unfolding step_in
  placed_is ts =
      placed_parts (step_in names pairs code records k) ts (mode_of mode)
      ∙ rw (v.ends, v.is_row.ending_is) (inferring_parts (step_in names pairs code records k) ts (ending_at (mode_of mode) (ending (rule_in records k))))

  pub label_refused : {r : Refusal} {before : List ℕ} {used : ℕ} {parts : (ℕ → Prop ℕ) → List (ProofTerm ℕ)} {least most : ℕ} {after : List ℕ} (ts : List (ProofTerm ℕ)) → Annotated names pairs code c label (Err r)
      → {x : Result ℕ Refusal} → x ≡ Err r → Answered names pairs code records k (placed ts) before used parts least most after x
  unfolding ◌>>=◌
  label_refused {r} ts a is = rw is (refuses {r = r} (placed_is ts ∙ rw (refusal_of a)))

  step_term_is : (l : Option (Label ℕ)) (ts : List (ProofTerm ℕ)) → term_over row.term z.first.name z.second.name l ts ≡ step_term (step_in names pairs code records k) l ts
  unfolding step_in identifier_in step_term term_over step_at identifier_at
  step_term_is l ts = rw (v.is_step, v.is_row.term_is)

  -- The rule's term, with its label.
  module _ {own-l : Option own-label.Label} {first second third used next : ℕ} {before after : List ℕ} (l : LabelOf names pairs code c label own-l) (made : MadeTerm row.term z.first.name z.second.name own-l first second third before used after next) where
    abbrev pub parts : (ℕ → Prop ℕ) → List (ProofTerm ℕ)
    parts props = part_terms (term_at props before) (length row.modes.now) (first ∷ second ∷ third ∷ [])

    abbrev pub ts : List (ProofTerm ℕ)
    ts = parts (prop_at names code)

    placed_term_lem : placed ts ≡ finishing (ending_of e) (step_in names pairs code records k) (term_at (prop_at names code) after (next - 1))
    unfolding ◌>>=◌
    placed_term_lem =
        let is : term_at (prop_at names code) after (next - 1) ≡ step_term (step_in names pairs code records k) (parameter_meant (prop_at names code) own-l) ts =
        made.holds (prop_at names code) ∙ rw v.is_row.parts_are (step_term_is (parameter_meant (prop_at names code) own-l) ts) in
        placed_is ts ∙ rw (l.is, is)

    ordered : (props : ℕ → Prop ℕ) → Ordered props before used (parts props) after next
    ordered props = rw (← v.is_row.parts_are) (made.ordered props)

    labels : (m offset : ℕ) → used ≤ m → m < next → HasProposition after m offset → LabelOffset pairs code records k offset
    labels m offset h i has = left_offset v.good v.bytes concluded offset (l.left offset (made.labels m offset h i has))

    pub term_answer : (e ≡ Ascribed → ⊥)
        → Answered names pairs code records k (placed ts) before used parts (used + 1 - length row.modes.now) (used + 2) after (Ok next)
    term_answer other =
        gives {next = next} (record {
          holds = placed_term_lem ∙ unascribed e (step_in names pairs code records k) (term_at (prop_at names code) after (next - 1)) other;
          ordered = ordered;
          low = omega (arith, made.more, v.is_row.parts_are);
          high = omega (arith, made.few);
          grown = record { kept = made.kept; tallied = made.tallied; labels = labels };
        })

    ascribed_labels : {p last : ℕ} {final : List ℕ} → c ≡ PropIsTrue p
        → Made (λ props part. TypeAscription (part (next - 1)) (proposition (props (pair_offset pairs p)))) after next final last
        → (m offset : ℕ) → used ≤ m → m < last → HasProposition final m offset → LabelOffset pairs code records k offset
    unfolding of_labels
    ascribed_labels {p} {last} {final} hc more m offset h i has = by_cases (dec_lt m next)
        (λ lt. labels m offset h lt (λ props. sym (record_kept single props final after next more.kept.numbers m lt) ∙ has props))
        (λ ge.
        let same : m ≡ next = omega (arith, more.counted) in
        let number : (props : ℕ → Prop ℕ) → props (pair_offset pairs p) ≡ props offset =
        λ props. let f = sym (more.label props) ∙ rw same at (has props) in cc in
        rw (same_number offset (pair_offset pairs p) number) (whole_offset v.good v.bytes concluded p hc))

    pub ascribed_answer : {final : List ℕ} {r : Result ℕ Refusal} → e ≡ Ascribed → Ascription names pairs code k c (conclusion_in names pairs code records k) after next final r
        → Answered names pairs code records k (placed ts) before used parts (used + 1 - length row.modes.now) (used + 2) final r
    unfolding finishing ending_of step_in ascription_label ◌>>=◌ refuse
    ascribed_answer {final} he (is_refused {r = r} none13 is) = refuses {r = r} (placed_term_lem ∙ rw (he, none13, is))
    ascribed_answer {final} he (is_ascribed {next = last} hc is more) =
        let end : last - 1 ≡ next = omega (arith, more.counted) in
        gives {next = last} (record {
          holds = placed_term_lem ∙ rw (he, is, end, more.holds (prop_at names code));
          ordered = λ props. ascribed_ordered (ordered props) more;
          low = omega (arith, made.more, v.is_row.parts_are, more.counted);
          high = omega (arith, made.few, more.counted);
          grown = record {
            kept = kept_then made.grows made.kept more.kept;
            tallied = λ t. more.tallied (made.tallied t);
            labels = ascribed_labels hc more;
          };
        })
