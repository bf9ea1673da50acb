-- The label of a parameter: none where no colon follows, and else the label behind it.
use Prim.Native.Nat.{ℕ}
use mathlib.Core.Path.{◌≡◌, refl, ap}
use mathlib.Core.Bool.{false}
use Rattle.std.specs.Prelude.{Option, None, Some}
use mathlib.Core.List.{List}
use native.Mathlib.Omega.{arith}
use lib.ListN.{drop}
use Rattle.definitions.specs.Utf8.{utf8}
use Rattle.definitions.specs.Name.{Name}
use Rattle.definitions.specs.Code.{Read, yield, followed_by, ◌>>=◌}
use Rattle.definitions.specs.Term.{Label}
use Rattle.definitions.specs.TermText.{parameter_label_names}
use Rattle.definitions.specs.TermReader.{expect, if_read, label, parameter_label, prop_levels, is_limited_parameter_label}
use Rattle.definitions.specs.TermMemory.{parameter_labels, labels_size, store_labels}
use Rattle.definitions.proofs.Readings.{given}
use Rattle.words.specs.declared.name_table.NameTable.{NameTable}
use Rattle.words.specs.Places.{Expected}
use Rattle.words.specs.Table.{table_names}
use Rattle.atom_reader.proofs.Atoms.{noted_none}
use Rattle.proof_term.specs.declared.nodes.Label as numbered
use Rattle.prop_reader.specs.declared.LabelRead.{LabelRead}
use Rattle.prop_reader.specs.Answer.{LabelBegins, LabelAnswer}
use Rattle.term_stack.specs.Numbers.{numbered_parameter}
use Rattle.term_stack.specs.Standing.{ThereIs}
use Rattle.term_openings.specs.Parameters.{fits_parameter, ParameterLacks, ParameterGiven}
use Rattle.term_openings.proofs.StoredLabels.{label_limited, label_to, label_is, label_stored}
use Rattle.std.proofs.lemmas.Option.{same_Some}
use Rattle.std.proofs.lemmas.Option.{none-some}

-- what is read behind the colon
behind_colon : (m : Option (Read (Label Name))) (l : Option (Label Name)) (rest : List ℕ) (P : Option (Label Name) → Type 0)
    → ((x : Read (Label Name)) → m ≡ Some x → P (Some x.value)) → followed_by m (λ l. yield (Some l)) ≡ given l rest → P l
unfolding followed_by yield
behind_colon None l rest P h e = absurd (none-some _ e)
behind_colon (Some x) l rest P h e =
    let same : Some x.value ≡ l = ap (λ (r : Read (Option (Label Name))). r.value) (same_Some _ _ e) in
    rw (← same) (h x refl)

-- a label may begin behind the colon
pub label_begins : {at : ℕ} {held : NameTable} {to place : ℕ} → Expected (utf8 ": ") held.text.now at place → LabelBegins at held to
    → LabelBegins place held to
label_begins colon begins = record {
  within = colon.within;
  even = begins.even;
  near = let n = begins.near in let a = colon.after in omega (arith, n, a);
}

module _ {at : ℕ} {types : List Name} {held : NameTable} {code : List ℕ} {to : ℕ} (begins : LabelBegins at held to) where
  pub no_label : expect (utf8 ": ") (drop at held.text.now) ≡ None
      → ThereIs (ParameterGiven held.text.now at types held code to held code (record { end = at; label = None; to = to }))
  unfolding parameter_label if_read yield is_limited_parameter_label parameter_label_names parameter_labels numbered_parameter labels_size store_labels
  no_label e = record {
    value = None;
    holds = record {
      within = begins.within;
      reads = rw e;
      limited = refl;
      noted = noted_none;
      label_is = λ number e. refl;
      stored = λ number e. refl;
      to_is = omega arith;
      from = omega arith;
      near = omega arith;
    };
  }

  module _ {place : ℕ} {after : NameTable} {code' : List ℕ} (colon : Expected (utf8 ": ") held.text.now at place) where
    pub label_lacks : LabelAnswer place types held code to after code' None → ParameterLacks held.text.now at types held
    unfolding parameter_label if_read ◌>>=◌ fits_parameter
    label_lacks answer = λ l rest e.
        behind_colon (label types prop_levels (drop place held.text.now)) l rest (λ m. fits_parameter (table_names held) m ≡ false) answer.answer
        (rw colon.reads at e)

    pub some_label : {r : LabelRead numbered.Label} → LabelAnswer place types held code to after code' (Some r)
        → ThereIs (ParameterGiven held.text.now at types held code to after code' (record { end = r.end; label = Some r.label; to = r.to }))
    unfolding parameter_label if_read ◌>>=◌ followed_by yield is_limited_parameter_label parameter_label_names parameter_labels numbered_parameter
    some_label answer =
        let (l, g) = answer.answer in
        let a = colon.after in
        let f = g.from in
        let n = g.near in
        record {
          value = Some l;
          holds = record {
            within = g.within;
            reads = rw colon.reads (ap (λ m. followed_by m (λ l. yield (Some l))) g.reads);
            limited = label_limited g;
            noted = g.noted;
            label_is = λ number e. ap Some (label_is g number e);
            stored = λ number e. label_stored g number e;
            to_is = label_to g;
            from = omega (arith, a, f);
            near = omega (arith, a, n);
          };
        }
