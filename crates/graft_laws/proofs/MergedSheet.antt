-- The parts of a merged sheet: its names, propositions and steps are the host's and the donor's.
use Prim.Native.Nat.{ℕ, zero, suc, ◌+◌, ◌*◌, ◌-◌, ◌≤◌, ◌<◌}
use mathlib.Core.Path.{◌≡◌, refl, sym, ap, ap₂, ◌∙◌}
use mathlib.Core.Bool.{false, not}
use Rattle.std.specs.Prelude.{unwrap_or, Option, None, Some}
use mathlib.Core.List.{List, [], ◌∷◌, ◌++◌, map}
use native.Mathlib.Omega.{arith}
use native.Mathlib.Decide.{dec_lt}
use lib.ListN.{length, get_or, take, drop, length-append, length-drop, get_or-append}
use lib.Seq.{length-take-le, get_or-append-add}
use lib.Dec.{ltb, leb, eqb}
use borrow.Author.Tests.{eqb-true, leb-false, ltb-false, not-false}
use Rattle.definitions.specs.Prop.{Prop, True, False, Binary, Atom, Quantified, PropParameter, Uninstantiated, Instantiated, rename_parameter, rename_prop}
use Rattle.definitions.specs.Code.{u16, encode, decode, CodableParameter, CodableParameters, Codable}
use Rattle.definitions.specs.Sheet as sheet
use Rattle.definitions.specs.Sheet.{pair_size, step_size, text_length, code_length, sheet_length, text_start, code_start, text_bytes, code_bytes, rule_byte, premiss_count, name_of, marked, pair_end}
use Rattle.definitions.specs.Tree.{Sorry, rules, rule_in, prop_in, prop_of}
use Rattle.definitions.specs.Admission.{misplaced, bad_name_pair, bad_proposition_pair, bad_code, is_none}
use Rattle.definitions.specs.Encode.{rule_number, concat, encode_pairs}
use Rattle.definitions.specs.Assemble.{parts_of}
use Rattle.writer_laws.specs.Fitting.{Fitting}
use Rattle.definitions.specs.Graft.{up_to, missing, merged_names, names_of, renumbered, donor_codes, donor_record, donor_records, merged_parts, merged_sheet, not_open}
use Rattle.definitions.proofs.Readings.{Bytes, marked_bytes}
use Rattle.definitions.proofs.Lowest.{all_fail}
use Rattle.definitions.proofs.PrefixCode.{decode_encode, encode_decode}
use Rattle.writer_laws.proofs.Checks.{Checks}
use Rattle.std.proofs.lemmas.Bool.{or_parts}
use Rattle.writer_laws.proofs.Assembling.{text_assembled, code_assembled, goal_assembled, names_assembled, propositions_assembled, steps_assembled, name_pairs_assembled, proposition_pairs_assembled, text_bytes_assembled, code_bytes_assembled}
use Rattle.writer_laws.proofs.Records.{SameStep, first_row, second_row, same_steps}
use Rattle.writer_laws.proofs.Restating.{fitting, is_whole}
use Rattle.graft_laws.proofs.Appending.{marked_first, marked_second, marked_written, length_pairs}
use Rattle.graft_laws.proofs.MergedNames.{length_merged, renumbered_right, each, row_length, up_to_length}

-- Propositions over other names.
module _ (n : ℕ) {A B : Type 0} (f : B → A) (g : ℕ → B) (e : ℕ → A) (same : (x : ℕ) → x < n → f (g x) ≡ e x) where
  parameter_twice : (p : PropParameter ℕ) → CodableParameter n p → rename_parameter f (rename_parameter g p) ≡ rename_parameter e p
  unfolding rename_parameter CodableParameter
  parameter_twice (Uninstantiated x) h = ap Uninstantiated (same x h)
  parameter_twice (Instantiated x i) h = ap (λ y. Instantiated y i) (same x h.0)

  parameters_twice : (ps : List (PropParameter ℕ)) → CodableParameters n ps
      → map (rename_parameter f) (map (rename_parameter g) ps) ≡ map (rename_parameter e) ps
  unfolding CodableParameters
  parameters_twice [] h = refl
  parameters_twice (p ∷ ps) h = rw (parameter_twice p h.0, parameters_twice ps h.1)

  pub rename_twice : (p : Prop ℕ) → Codable n p → rename_prop f (rename_prop g p) ≡ rename_prop e p
  unfolding rename_prop Codable
  rename_twice True h = refl
  rename_twice False h = refl
  rename_twice (Binary c p q) h = rw (rename_twice p h.0, rename_twice q h.1)
  rename_twice (Atom a ps) h = rw (same a h.0, parameters_twice ps h.2)
  rename_twice (Quantified q x t p) h = rw (same x h.0, same t h.1, rename_twice p h.2)

pub rename_same : (n : ℕ) {A : Type 0} (f e : ℕ → A) → ((x : ℕ) → x < n → f x ≡ e x) → (p : Prop ℕ) → Codable n p → rename_prop f p ≡ rename_prop e p
rename_same n f e same p h = sym (rename_twice n (λ x. x) f f (λ x l. refl) p h) ∙ rename_twice n (λ x. x) f e same p h

-- a proposition over renumbered names has a code
module _ (n m : ℕ) (g : ℕ → ℕ) (below : (x : ℕ) → x < n → g x < m) where
  codable_parameters : (ps : List (PropParameter ℕ)) → CodableParameters n ps
      → CodableParameters m (map (rename_parameter g) ps) × (length (map (rename_parameter g) ps) ≡ length ps)
  unfolding CodableParameters CodableParameter rename_parameter
  codable_parameters [] h = (tt, refl)
  codable_parameters (Uninstantiated x ∷ ps) h = let (a, b) = codable_parameters ps h.1 in ((below x h.0, a), ap suc b)
  codable_parameters (Instantiated x i ∷ ps) h =
      let (a, b) = codable_parameters ps h.1 in (((below x h.0.0, h.0.1), a), ap suc b)

  pub codable_renamed : (p : Prop ℕ) → Codable n p → Codable m (rename_prop g p)
  unfolding rename_prop Codable
  codable_renamed True h = tt
  codable_renamed False h = tt
  codable_renamed (Binary c p q) h = (codable_renamed p h.0, codable_renamed q h.1)
  codable_renamed (Atom a ps) h = let (b, l) = codable_parameters ps h.2 in (below a h.0, rw l h.1, b)
  codable_renamed (Quantified q x t p) h = (below x h.0, below t h.1, codable_renamed p h.2)

rename_nothing : (p : Prop ℕ) → rename_prop (λ (x : ℕ). x) p ≡ p
unfolding rename_prop rename_parameter
rename_nothing True = refl
rename_nothing False = refl
rename_nothing (Binary c p q) = rw (rename_nothing p, rename_nothing q)
rename_nothing (Atom a ps) = ap (Atom a) (go ps)
  where
    one : (p : PropParameter ℕ) → rename_parameter (λ (x : ℕ). x) p ≡ p
    one (Uninstantiated x) = refl
    one (Instantiated x i) = refl

    go : (ps : List (PropParameter ℕ)) → map (rename_parameter (λ (x : ℕ). x)) ps ≡ ps
    go [] = refl
    go (p ∷ ps) = ap₂ ◌∷◌ (one p) (go ps)
rename_nothing (Quantified q x t p) = ap (Quantified q x t) (rename_nothing p)

-- Rows of records of one size.
module _ (f : ℕ → List ℕ) (size : (i : ℕ) → length (f i) ≡ step_size) where
  length_records : (l : List ℕ) → length (concat (map f l)) ≡ step_size * length l
  unfolding concat step_size
  length_records [] = refl
  length_records (a ∷ l) = length-append (f a) (concat (map f l)) ∙ omega (arith, size a, length_records l)

  pub record_at : (l : List ℕ) (j : ℕ) → j < length l → SameStep (concat (map f l)) j (f (get_or l j 0)) 0
  unfolding concat step_size
  record_at [] j h = absurd (omega arith)
  record_at (a ∷ l) zero h = first_row (f a) (concat (map f l)) 0 (omega (arith, size a))
  record_at (a ∷ l) (suc j) h =
      let z : 1 + j ≡ suc j = omega arith in
      same_steps (rw z at (second_row (f a) (concat (map f l)) 1 j (omega (arith, size a)))) (record_at l j (omega arith))

-- what refusals 4, 6 and 7 leave of an admitted sheet's pairs and codes
module _ (s : List ℕ) (c : Checks s) where
  pub name_within : (i : ℕ) → i < sheet.names s → pair_end (sheet.name_pairs s) i ≤ text_length s
  unfolding bad_name_pair misplaced
  name_within i l =
      let e = all_fail (bad_name_pair (sheet.name_pairs s) (text_length s)) (sheet.names s) c.good_name_pairs i l in
      let e₁ = (or_parts (misplaced (sheet.name_pairs s) (text_length s) i) _ e).0 in
      ltb-false (text_length s) (pair_end (sheet.name_pairs s) i) (or_parts (ltb (sheet.pair_offset (sheet.name_pairs s) i) (sheet.last_end (sheet.name_pairs s) i)) _ e₁).1

  pub proposition_within : (i : ℕ) → i < sheet.propositions s → pair_end (sheet.proposition_pairs s) i ≤ code_length s
  unfolding bad_proposition_pair misplaced
  proposition_within i l =
      let e = all_fail (bad_proposition_pair (sheet.proposition_pairs s) (code_length s)) (sheet.propositions s) c.good_proposition_pairs i l in
      let e₁ = (or_parts (misplaced (sheet.proposition_pairs s) (code_length s) i) _ e).0 in
      ltb-false (code_length s) (pair_end (sheet.proposition_pairs s) i)
      (or_parts (ltb (sheet.pair_offset (sheet.proposition_pairs s) i) (sheet.last_end (sheet.proposition_pairs s) i)) _ e₁).1

  pub decoded : (i : ℕ) → i < sheet.propositions s → decode (sheet.names s) (marked (sheet.proposition_pairs s) (code_bytes s) i) ≡ Some (prop_of s i)
  unfolding bad_code prop_of prop_in is_none
  decoded i l = go (decode (sheet.names s) (marked (sheet.proposition_pairs s) (code_bytes s) i)) (all_fail (bad_code (sheet.names s) (sheet.proposition_pairs s) (code_bytes s)) (sheet.propositions s) c.codes i l)
    where
      go : (x : Option (Prop ℕ)) → is_none x ≡ false → x ≡ Some (unwrap_or x False)
      go None e = absurd (grind arith)
      go (Some p) e = refl

  length_part : (from n : ℕ) → from + n ≤ length s → length (take n (drop from s)) ≡ n
  length_part from n h = length-take-le n (drop from s) (rw (length-drop from s) (omega arith))

  pub length_text : length (text_bytes s) ≡ text_length s
  unfolding text_bytes sheet_length code_start
  length_text = let whole = is_whole s c in length_part (text_start s) (text_length s) (omega arith)

  pub length_code : length (code_bytes s) ≡ code_length s
  unfolding code_bytes sheet_length
  length_code = let whole = is_whole s c in length_part (code_start s) (code_length s) (omega arith)

  module _ (bytes : Bytes s) where
    -- a proposition of the sheet has names below the sheet's count, and its code stands at its pair
    pub coded : (i : ℕ) → i < sheet.propositions s
        → (encode (prop_of s i) ≡ marked (sheet.proposition_pairs s) (code_bytes s) i) × Codable (sheet.names s) (prop_of s i)
    coded i l = encode_decode (sheet.names s) (marked (sheet.proposition_pairs s) (code_bytes s) i) (prop_of s i) (marked_bytes s bytes (sheet.proposition_pairs s) i) (decoded i l)

-- a host and a donor that are admitted, and an open step of the host
pub record Grafts (h d : List ℕ) (k : ℕ) : Type 0 where
  pub host : Checks h
  pub donor : Checks d
  pub host_bytes : Bytes h
  pub donor_bytes : Bytes d
  pub is_open : not_open h k ≡ false

module _ {h d : List ℕ} {k : ℕ} (g : Grafts h d k) where
  pub here : k < sheet.steps h
  unfolding not_open
  here = leb-false (sheet.steps h) k (or_parts (leb (sheet.steps h) k) _ g.is_open).0

  pub no_premisses : premiss_count (sheet.step_records h) k ≡ 0
  unfolding not_open
  no_premisses =
      let e = (or_parts (leb (sheet.steps h) k) _ g.is_open).1 in
      let e₁ = (or_parts (not (eqb (rule_byte (sheet.step_records h) k) (rule_number Sorry))) (not (eqb (premiss_count (sheet.step_records h) k) 0)) e).1 in
      eqb-true (premiss_count (sheet.step_records h) k) 0 (not-false (eqb (premiss_count (sheet.step_records h) k) 0) e₁)

  pub is_sorry_lem : rule_in (sheet.step_records h) k ≡ Sorry
  unfolding not_open rule_in rules rule_number
  is_sorry_lem =
      let e = (or_parts (leb (sheet.steps h) k) _ g.is_open).1 in
      let e₁ = (or_parts (not (eqb (rule_byte (sheet.step_records h) k) (rule_number Sorry))) _ e).0 in
      let byte : rule_byte (sheet.step_records h) k ≡ 15 = eqb-true (rule_byte (sheet.step_records h) k) 15 (not-false _ e₁) in
      rw byte

  fit_host : Fitting (parts_of h)
  fit_host = fitting h (is_whole h g.host)

  pub name_pairs_length : length (sheet.name_pairs h) ≡ pair_size * sheet.names h
  unfolding parts_of
  name_pairs_length = fit_host.name_pairs

  pub proposition_pairs_length : length (sheet.proposition_pairs h) ≡ pair_size * sheet.propositions h
  unfolding parts_of
  proposition_pairs_length = fit_host.proposition_pairs

  pub records_length : length (sheet.step_records h) ≡ step_size * sheet.steps h
  unfolding parts_of
  records_length = fit_host.step_records

  pub record_length : (i : ℕ) → length (donor_record h d i) ≡ step_size
  unfolding donor_record u16 step_size
  record_length i = refl

  pub donor_length : length (donor_records h d) ≡ step_size * sheet.steps d
  unfolding donor_records
  donor_length =
      length_records (donor_record h d) record_length (up_to (sheet.steps d))
      ∙ ap (λ (n : ℕ). step_size * n) (up_to_length (sheet.steps d))

  pub first_length : length (take (step_size * k) (sheet.step_records h)) ≡ step_size * k
  unfolding step_size
  first_length = length-take-le (20 * k) (sheet.step_records h) (omega (arith, records_length, here))

  pub codes_length : length (donor_codes h d) ≡ sheet.propositions d
  unfolding donor_codes
  codes_length = row_length _ (sheet.propositions d)

  pub fit : Fitting (merged_parts h d k)
  unfolding merged_parts pair_size step_size
  fit =
      record {
        name_pairs =
            length-append (sheet.name_pairs h) (encode_pairs (text_length h) (missing h d))
            ∙ omega (arith, name_pairs_length, length_pairs (text_length h) (missing h d));
        proposition_pairs =
            length-append (sheet.proposition_pairs h) (encode_pairs (code_length h) (donor_codes h d))
            ∙ omega (arith, proposition_pairs_length, length_pairs (code_length h) (donor_codes h d), codes_length);
        step_records =
            length-append (take (20 * k) (sheet.step_records h)) (donor_records h d ++ drop (20 * (k + 1)) (sheet.step_records h))
            ∙ omega (
              arith,
              first_length,
              length-append (donor_records h d) (drop (20 * (k + 1)) (sheet.step_records h)),
              donor_length,
              length-drop (20 * (k + 1)) (sheet.step_records h),
              records_length,
              here,
            );
      }

  -- the names
  pub merged_names_lem : sheet.names (merged_sheet h d k) ≡ length (merged_names h d)
  unfolding merged_sheet merged_parts
  merged_names_lem = names_assembled (merged_parts h d k) ∙ sym (length_merged h d)

  name_at : (i : ℕ) → name_of (merged_sheet h d k) i
      ≡ marked (sheet.name_pairs h ++ encode_pairs (length (text_bytes h)) (missing h d)) (text_bytes h ++ concat (missing h d)) i
  unfolding name_of merged_sheet merged_parts
  name_at i =
      rw (length_text h g.host)
      (ap₂ (λ (pairs text : List ℕ). marked pairs text i) (name_pairs_assembled (merged_parts h d k) fit) (text_bytes_assembled (merged_parts h d k) fit))

  pub host_name : (i : ℕ) → i < sheet.names h → name_of (merged_sheet h d k) i ≡ name_of h i
  unfolding name_of pair_size
  host_name i l =
      name_at i
      ∙ marked_first (sheet.name_pairs h) _ (text_bytes h) _ i (omega (arith, name_pairs_length)) (rw (length_text h g.host) (name_within h g.host i l))

  pub new_name : (i : ℕ) → i < length (missing h d) → name_of (merged_sheet h d k) (sheet.names h + i) ≡ get_or (missing h d) i []
  new_name i l =
      name_at (sheet.names h + i)
      ∙ (marked_second (sheet.name_pairs h) _ _ (sheet.names h) i name_pairs_length ∙ marked_written (text_bytes h) (missing h d) i l)

  host_length : length (names_of h) ≡ sheet.names h
  unfolding names_of
  host_length = row_length (name_of h) (sheet.names h)

  host_each : (i : ℕ) → i < sheet.names h → get_or (names_of h) i [] ≡ name_of h i
  unfolding names_of
  host_each i l = each (name_of h) (sheet.names h) i [] l

  -- each merged name, by number
  pub merged_name : (i : ℕ) → i < length (merged_names h d) → name_of (merged_sheet h d k) i ≡ get_or (merged_names h d) i []
  unfolding merged_names
  merged_name i l = go (dec_lt i (sheet.names h))
    where
      go : Dec (i < sheet.names h) → name_of (merged_sheet h d k) i ≡ get_or (names_of h ++ missing h d) i []
      go (yes b) = host_name i b ∙ sym (get_or-append (names_of h) (missing h d) [] i (rw host_length b) ∙ host_each i b)
      go (no b) =
          let j = i - sheet.names h in
          let z : sheet.names h + j ≡ i = omega arith in
          let z' : length (names_of h) + j ≡ i = omega (arith, host_length) in
          rw z at
          (new_name j (omega (arith, length_merged h d))
          ∙ (sym (get_or-append-add (names_of h) (missing h d) j []) ∙ ap (λ (m : ℕ). get_or (names_of h ++ missing h d) m []) (z' ∙ sym z)))

  -- a donor name under its new number
  pub donor_name_lem : (n : ℕ) → n < sheet.names d → name_of (merged_sheet h d k) (renumbered h d n) ≡ name_of d n
  donor_name_lem n l =
      let r = renumbered_right h d n l in
      merged_name (renumbered h d n) r.within ∙ r.same

  pub merged_pairs : sheet.proposition_pairs (merged_sheet h d k) ≡ sheet.proposition_pairs h ++ encode_pairs (length (code_bytes h)) (donor_codes h d)
  unfolding merged_sheet merged_parts
  merged_pairs = proposition_pairs_assembled (merged_parts h d k) fit ∙ rw (length_code h g.host)

  pub merged_code : code_bytes (merged_sheet h d k) ≡ code_bytes h ++ concat (donor_codes h d)
  unfolding merged_sheet merged_parts
  merged_code = code_bytes_assembled (merged_parts h d k) fit

  -- the propositions
  prop_at_lem : (i : ℕ) → prop_of (merged_sheet h d k) i
      ≡ prop_in (length (merged_names h d)) (sheet.proposition_pairs h ++ encode_pairs (length (code_bytes h)) (donor_codes h d))
      (code_bytes h ++ concat (donor_codes h d)) i
  unfolding prop_of
  prop_at_lem i = rw (merged_names_lem, merged_pairs, merged_code)

  -- a host proposition keeps its number
  pub host_prop : (i : ℕ) → i < sheet.propositions h → prop_of (merged_sheet h d k) i ≡ prop_of h i
  unfolding prop_in pair_size
  host_prop i l =
      let c = coded h g.host g.host_bytes i l in
      let wider : Codable (length (merged_names h d)) (prop_of h i) =
      rw (rename_nothing (prop_of h i)) at
      (codable_renamed (sheet.names h) (length (merged_names h d)) (λ (x : ℕ). x) (λ x b. omega (arith, length_merged h d)) (prop_of h i) c.1) in
      prop_at_lem i
      ∙ ap (λ (x : Option (Prop ℕ)). unwrap_or x False)
      (ap (decode (length (merged_names h d)))
      (marked_first (sheet.proposition_pairs h) _ (code_bytes h) _ i (omega (arith, proposition_pairs_length)) (rw (length_code h g.host) (proposition_within h g.host i l))
      ∙ sym c.0)
      ∙ decode_encode (length (merged_names h d)) (prop_of h i) wider)

  -- a donor proposition stands after the host's, over the merged names
  pub donor_prop : (i : ℕ) → i < sheet.propositions d → prop_of (merged_sheet h d k) (sheet.propositions h + i) ≡ rename_prop (renumbered h d) (prop_of d i)
  unfolding prop_in donor_codes
  donor_prop i l =
      let c = coded d g.donor g.donor_bytes i l in
      let good : Codable (length (merged_names h d)) (rename_prop (renumbered h d) (prop_of d i)) =
      codable_renamed (sheet.names d) (length (merged_names h d)) (renumbered h d) (λ x b. (renumbered_right h d x b).within) (prop_of d i) c.1 in
      prop_at_lem (sheet.propositions h + i)
      ∙ ap (λ (x : Option (Prop ℕ)). unwrap_or x False)
      (ap (decode (length (merged_names h d)))
      (marked_second (sheet.proposition_pairs h) _ _ (sheet.propositions h) i proposition_pairs_length
      ∙ (marked_written (code_bytes h) (donor_codes h d) i (rw codes_length l)
      ∙ each (λ j. encode (rename_prop (renumbered h d) (prop_of d j))) (sheet.propositions d) i [] l))
      ∙ decode_encode (length (merged_names h d)) (rename_prop (renumbered h d) (prop_of d i)) good)

  -- over names as bytes they are the same propositions
  pub host_prop_named : (i : ℕ) → i < sheet.propositions h
      → rename_prop (name_of (merged_sheet h d k)) (prop_of (merged_sheet h d k) i) ≡ rename_prop (name_of h) (prop_of h i)
  host_prop_named i l =
      rw (host_prop i l)
      (rename_same (sheet.names h) (name_of (merged_sheet h d k)) (name_of h) host_name (prop_of h i) (coded h g.host g.host_bytes i l).1)

  pub donor_prop_named : (i : ℕ) → i < sheet.propositions d
      → rename_prop (name_of (merged_sheet h d k)) (prop_of (merged_sheet h d k) (sheet.propositions h + i)) ≡ rename_prop (name_of d) (prop_of d i)
  donor_prop_named i l =
      rw (donor_prop i l)
      (rename_twice (sheet.names d) (name_of (merged_sheet h d k)) (renumbered h d) (name_of d) donor_name_lem (prop_of d i) (coded d g.donor g.donor_bytes i l).1)

  -- what is read where a proposition stands
  pub host_decoded : (i : ℕ) → i < sheet.propositions h
      → decode (sheet.names (merged_sheet h d k)) (marked (sheet.proposition_pairs (merged_sheet h d k)) (code_bytes (merged_sheet h d k)) i) ≡ Some (prop_of h i)
  unfolding pair_size
  host_decoded i l =
      let c = coded h g.host g.host_bytes i l in
      let wider : Codable (length (merged_names h d)) (prop_of h i) =
      rw (rename_nothing (prop_of h i)) at
      (codable_renamed (sheet.names h) (length (merged_names h d)) (λ (x : ℕ). x) (λ x b. omega (arith, length_merged h d)) (prop_of h i) c.1) in
      rw (merged_names_lem, merged_pairs, merged_code)
      (ap (decode (length (merged_names h d)))
      (marked_first (sheet.proposition_pairs h) _ (code_bytes h) _ i (omega (arith, proposition_pairs_length)) (rw (length_code h g.host) (proposition_within h g.host i l))
      ∙ sym c.0)
      ∙ decode_encode (length (merged_names h d)) (prop_of h i) wider)

  pub donor_decoded : (i : ℕ) → i < sheet.propositions d
      → decode (sheet.names (merged_sheet h d k)) (marked (sheet.proposition_pairs (merged_sheet h d k)) (code_bytes (merged_sheet h d k)) (sheet.propositions h + i))
      ≡ Some (rename_prop (renumbered h d) (prop_of d i))
  unfolding donor_codes
  donor_decoded i l =
      let c = coded d g.donor g.donor_bytes i l in
      let good : Codable (length (merged_names h d)) (rename_prop (renumbered h d) (prop_of d i)) =
      codable_renamed (sheet.names d) (length (merged_names h d)) (renumbered h d) (λ x b. (renumbered_right h d x b).within) (prop_of d i) c.1 in
      rw (merged_names_lem, merged_pairs, merged_code)
      (ap (decode (length (merged_names h d)))
      (marked_second (sheet.proposition_pairs h) _ _ (sheet.propositions h) i proposition_pairs_length
      ∙ (marked_written (code_bytes h) (donor_codes h d) i (rw codes_length l)
      ∙ each (λ j. encode (rename_prop (renumbered h d) (prop_of d j))) (sheet.propositions d) i [] l))
      ∙ decode_encode (length (merged_names h d)) (rename_prop (renumbered h d) (prop_of d i)) good)

  -- the numbers of its header
  pub merged_text : text_length (merged_sheet h d k) ≡ text_length h + length (concat (missing h d))
  unfolding merged_sheet merged_parts
  merged_text = text_assembled (merged_parts h d k) ∙ (length-append (text_bytes h) (concat (missing h d)) ∙ rw (length_text h g.host))

  pub merged_code_length : code_length (merged_sheet h d k) ≡ code_length h + length (concat (donor_codes h d))
  unfolding merged_sheet merged_parts
  merged_code_length =
      code_assembled (merged_parts h d k) ∙ (length-append (code_bytes h) (concat (donor_codes h d)) ∙ rw (length_code h g.host))

  pub merged_count : sheet.names (merged_sheet h d k) ≡ sheet.names h + length (missing h d)
  merged_count = merged_names_lem ∙ length_merged h d

  pub merged_propositions : sheet.propositions (merged_sheet h d k) ≡ sheet.propositions h + sheet.propositions d
  unfolding merged_sheet merged_parts
  merged_propositions = propositions_assembled (merged_parts h d k)

  pub merged_step_count : sheet.steps (merged_sheet h d k) ≡ (sheet.steps h + sheet.steps d) - 1
  unfolding merged_sheet merged_parts
  merged_step_count = steps_assembled (merged_parts h d k)

  pub merged_goal : sheet.goal (merged_sheet h d k) ≡ sheet.goal h
  unfolding merged_sheet merged_parts
  merged_goal = goal_assembled (merged_parts h d k)
