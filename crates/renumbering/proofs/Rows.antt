-- What is left of a proposition's code behind any of its heads is a row of propositions, over other names too.
use Prim.Native.Nat.{ℕ, ◌+◌, ◌≤◌, ◌<◌}
use mathlib.Core.Path.{◌≡◌, refl, sym, ap, ◌∙◌}
use mathlib.Core.List.{List, [], ◌∷◌, ◌++◌, append_assoc, append-nil, flat_map}
use native.Mathlib.Omega.{arith}
use lib.ListN.{length, drop, length-append, length-drop}
use Rattle.std.proofs.lemmas.Grind.{flat_map-append}
use Rattle.definitions.specs.Prop.{Prop, True, False, Binary, Atom, Quantified, rename_prop}
use Rattle.definitions.specs.Code.{u16, encode, Codable}
use Rattle.definitions.proofs.PrefixCode.{code_nonempty}
use Rattle.output.specs.SinkLaws.{SinkLaws}
use Rattle.prefix_code.specs.Scan.{Stands, Ends}
use Rattle.prefix_code.specs.Head.{encode_head, head_coding}
use Rattle.prefix_code.specs.Row.{encode_row, CodableRow}
use Rattle.prefix_code.proofs.Positions.{after}
use Rattle.prefix_code.proofs.Heads.{HeadAt}
use Rattle.prefix_code.proofs.Rows.{head_of, parts, row_code, head_codable, codable_append}
use Rattle.renumbering.specs.Renumbered.{mapped, rename_head, rename_parameters, Standing, Renumbers, Whole, PutWhole}
use Rattle.renumbering.proofs.Writes.{Left, all_left, piece_less, none_left}

-- the code of propositions in a row, over other names
abbrev pub row_over : (ℕ → ℕ) → List (Prop ℕ) → List ℕ
row_over f = flat_map (λ p. encode (rename_prop f p))

head_over : (f : ℕ → ℕ) (p : Prop ℕ) → encode (rename_prop f p) ≡ encode_head (rename_head f (head_of p)) ++ row_over f (parts p)
unfolding encode encode_head rename_head rename_prop rename_parameters flat_map u16
head_over f True = refl
head_over f False = refl
head_over f (Binary c p q) = rw append-nil
head_over f (Atom a ps) = rw append-nil
head_over f (Quantified q x t p) = rw append-nil

pub row_over_lem : (f : ℕ → ℕ) (p : Prop ℕ) (ps : List (Prop ℕ))
    → row_over f (p ∷ ps) ≡ encode_head (rename_head f (head_of p)) ++ row_over f (parts p ++ ps)
unfolding flat_map
row_over_lem f p ps =
    cc (head_over f p, flat_map-append (λ q. encode (rename_prop f q)) (parts p) ps, append_assoc (encode_head (rename_head f (head_of p))) (row_over f (parts p)) (row_over f ps))

module _ (names : ℕ) where
  -- the rest of the code from i on is a row of propositions
  pub record RowAt (code : List ℕ) (i : ℕ) (ps : List (Prop ℕ)) : Type 0 where
    pub codable : CodableRow names ps
    pub coded : drop i code ≡ encode_row ps

  -- its first head, and the row behind it
  pub record FirstHead (code : List ℕ) (i : ℕ) (ps : List (Prop ℕ)) : Type 0 where
    pub proposition : Prop ℕ
    pub others : List (Prop ℕ)
    pub is : ps ≡ proposition ∷ others
    pub stands : HeadAt names code i (head_of proposition) (encode_row (parts proposition ++ others))
    pub behind : RowAt code (i + length (encode_head (head_of proposition))) (parts proposition ++ others)

  pub first_head : (code : List ℕ) (i : ℕ) (ps : List (Prop ℕ)) → i < length code → RowAt code i ps → FirstHead code i ps
  unfolding CodableRow Stands flat_map
  first_head code i [] h r = absurd (omega (arith, length-drop i code, ap length r.coded))
  first_head code i (p ∷ ps) h r =
      let g = r.codable in
      let here : drop i code ≡ encode_head (head_of p) ++ encode_row (parts p ++ ps) = r.coded ∙ row_code p ps in
      let parted = head_codable names p g.0 in
      record {
        proposition = p;
        others = ps;
        is = refl;
        stands = (parted.0, here);
        behind = record {
          codable = codable_append names (parts p) ps parted.1 g.1;
          coded = after code i (encode_head (head_of p)) (encode_row (parts p ++ ps)) here;
        };
      }

-- all of the code is a row of one proposition
pub whole_row : {names : ℕ} {code : List ℕ} {p : Prop ℕ} → Codable names p → code ≡ encode p → RowAt names code 0 (p ∷ [])
unfolding CodableRow flat_map
whole_row {p = p} g e = record { codable = (g, tt); coded = e ∙ sym (append-nil (encode p)) }

-- The propositions that are left decide what is left to write.
module _ (names : ℕ) (code numbers : List ℕ) {S : Type 0} (puts : S → List ℕ → S → Type 0) (before : S) where
  pub record Rest (p : Prop ℕ) (mid : S) (i : ℕ) : Type 0 where
    pub others : List (Prop ℕ)
    pub stands : RowAt names code i others
    pub left : Left (encode (rename_prop (mapped numbers) p)) (row_over (mapped numbers) others) puts before mid

  pub record Remaining (mid : S) (i : ℕ) : Type 0 where
    pub inside : i ≤ length code
    pub some : (p : Prop ℕ) → Codable names p → code ≡ encode p → Rest p mid i

module _ {names : ℕ} {code numbers : List ℕ} {S : Type 0} {puts : S → List ℕ → S → Type 0} (laws : SinkLaws puts) {before : S} where
  pub at_first : Remaining names code numbers puts before before 0
  unfolding CodableRow flat_map
  at_first = record {
    inside = omega arith;
    some = λ p g e. record {
      others = p ∷ [];
      stands = whole_row g e;
      left = rw append-nil all_left;
    };
  }

  module _ {mid : S} {i : ℕ} (r : Remaining names code numbers puts before mid i) where
    pub next_asked : Whole names code → i < length code → Standing (head_coding names) code i
    next_asked w h =
        let more = r.some w.value w.codable w.coded in
        let f = first_head names code i more.others h more.stands in
        record { value = head_of f.proposition; rest = encode_row (parts f.proposition ++ f.others); inside = r.inside; stands = f.stands }

    pub one_written : i < length code → {out : S} {j : ℕ}
        → Renumbers (head_coding names) rename_head code i numbers puts mid out → Ends (head_coding names) code i j
        → Remaining names code numbers puts before out j
    one_written h {out} {j} w ends = record {
      inside = ends.inside;
      some = λ p g e.
          let more = r.some p g e in
          let f = first_head names code i more.others h more.stands in
          let q : Prop ℕ = f.proposition in
          let rest : List ℕ = encode_row (parts q ++ f.others) in
          let ended = ends.found (head_of q) rest f.stands in
          record {
            others = parts q ++ f.others;
            stands = rw ended f.behind;
            left = piece_less laws (rw (f.is, row_over_lem (mapped numbers) q f.others) at more.left) (w.put (head_of q) rest f.stands);
          };
    }

    pub all_written : length code ≤ i → PutWhole names code numbers puts before mid
    unfolding flat_map
    all_written h = record { put = λ p g e. let more = r.some p g e in go p more.others more.stands more.left }
      where
        go : (p : Prop ℕ) (ps : List (Prop ℕ)) → RowAt names code i ps
            → Left (encode (rename_prop (mapped numbers) p)) (row_over (mapped numbers) ps) puts before mid
            → puts before (encode (rename_prop (mapped numbers) p)) mid
        go p [] s l = none_left laws l
        go p (q ∷ qs) s l =
            absurd (omega (arith, length-drop i code, ap length s.coded, length-append (encode q) (encode_row qs), code_nonempty q))
