-- What is written for a parameter, and for parameters one after another.
use Prim.Native.Nat.{ℕ, ◌+◌, ◌-◌, ◌≤◌, ◌<◌}
use mathlib.Core.Path.{◌≡◌, refl, ◌∙◌}
use mathlib.Core.List.{List, [], ◌∷◌, ◌++◌, append_assoc}
use native.Mathlib.Omega.{arith}
use lib.ListN.{length, get_or, drop}
use Rattle.definitions.specs.Sheet.{number_at}
use Rattle.definitions.specs.Prop.{PropParameter, rename_parameter}
use Rattle.definitions.specs.Code.{u16, encode_parameter, encode_parameters, CodableParameters}
use Rattle.output.specs.SinkLaws.{SinkLaws}
use Rattle.prefix_code.specs.Scan.{Stands, Ends, Several, parameter_coding, parameters_coding}
use Rattle.prefix_code.specs.Shape.{kind_byte, kind_size}
use Rattle.prefix_code.specs.declared.ParameterKind.{ParameterKind}
use Rattle.prefix_code.proofs.Positions.{after}
use Rattle.prefix_code.proofs.Parameters.{ParameterBytes, parameter_bytes, kind_ends}
use Rattle.renumbering.specs.Renumbered.{mapped, rename_parameters, Standing, Renumbers}
use Rattle.renumbering.proofs.Writes.{Left, all_left, piece_less, none_left}

module _ (names : ℕ) {code : List ℕ} {at : ℕ} where
  -- the bytes of the parameter that stands there
  pub parameter_at : (s : Standing (parameter_coding names) code at) → ParameterBytes names code at s.value s.rest
  parameter_at s = parameter_bytes names code at s.value s.rest s.stands

module _ (names : ℕ) {code : List ℕ} {at : ℕ} (numbers : List ℕ) {S : Type 0} {puts : S → List ℕ → S → Type 0} (laws : SinkLaws puts) {before first second : S}
    (w : puts before (get_or code at 0 ∷ []) first)
    (v : puts first (u16 (mapped numbers (number_at code (at + 1)))) second) where
  pub uninstantiated_written : get_or code at 0 ≡ 0 → Renumbers (parameter_coding names) rename_parameter code at numbers puts before second
  unfolding encode_parameter rename_parameter
  uninstantiated_written byte = record {
    put = λ p rest s.
        let b = parameter_bytes names code at p rest s in
        rw (b.uninstantiated byte).0 (laws.then (rw byte at w) v);
  }

  pub instantiated_written : {third : S} {id : ℕ} → get_or code at 0 ≡ 1 → id ≡ number_at code (at + 3)
      → puts second (u16 id) third
      → Renumbers (parameter_coding names) rename_parameter code at numbers puts before third
  unfolding encode_parameter rename_parameter
  instantiated_written byte id_at u = record {
    put = λ p rest s.
        let b = parameter_bytes names code at p rest s in
        rw ((b.instantiated byte).0, ← id_at) (laws.then (rw byte at w) (laws.then v u));
  }

-- The parameters that are left decide what is left to write.
module _ (names : ℕ) (code numbers : List ℕ) {S : Type 0} (puts : S → List ℕ → S → Type 0) (before : S) (at count : ℕ) where
  pub record Rest (ps : List (PropParameter ℕ)) (rest : List ℕ) (mid : S) (i needed : ℕ) : Type 0 where
    pub others : List (PropParameter ℕ)
    pub stands : Stands (parameters_coding names needed) code i others rest
    pub left : Left (encode_parameters (rename_parameters (mapped numbers) ps)) (encode_parameters (rename_parameters (mapped numbers) others))
        puts before mid

  pub record Remaining (mid : S) (i needed : ℕ) : Type 0 where
    pub inside : i ≤ length code
    pub some : (ps : List (PropParameter ℕ)) (rest : List ℕ) → Stands (parameters_coding names count) code at ps rest → Rest ps rest mid i needed

-- the first of some parameters, and the others
pub record First (names : ℕ) (code : List ℕ) (i needed : ℕ) (ps : List (PropParameter ℕ)) (rest : List ℕ) : Type 0 where
  pub parameter : PropParameter ℕ
  pub others : List (PropParameter ℕ)
  pub is : ps ≡ parameter ∷ others
  pub stands : Stands (parameter_coding names) code i parameter (encode_parameters others ++ rest)
  pub behind : (j : ℕ) → j ≡ i + length (encode_parameter parameter) → Stands (parameters_coding names (needed - 1)) code j others rest

pub first_of : (names : ℕ) (code : List ℕ) (i needed : ℕ) (ps : List (PropParameter ℕ)) (rest : List ℕ) → 0 < needed
    → Stands (parameters_coding names needed) code i ps rest → First names code i needed ps rest
unfolding Stands Several CodableParameters encode_parameters
first_of names code i needed [] rest h s = absurd (omega (arith, s.0.1))
first_of names code i needed (p ∷ ps) rest h s =
    let here : drop i code ≡ encode_parameter p ++ (encode_parameters ps ++ rest) = s.1 ∙ append_assoc (encode_parameter p) (encode_parameters ps) rest in
    let fewer : length ps ≡ needed - 1 = omega (arith, s.0.1) in
    record {
      parameter = p;
      others = ps;
      is = refl;
      stands = (s.0.0.0, here);
      behind = λ j e. ((s.0.0.1, fewer), rw e (after code i (encode_parameter p) (encode_parameters ps ++ rest) here));
    }

module _ {names : ℕ} {code numbers : List ℕ} {S : Type 0} {puts : S → List ℕ → S → Type 0} (laws : SinkLaws puts) {before : S} {at count : ℕ} where
  pub at_first : at ≤ length code → Remaining names code numbers puts before at count before at count
  at_first h = record { inside = h; some = λ ps rest s. record { others = ps; stands = s; left = all_left } }

  module _ {mid : S} {i needed : ℕ} (r : Remaining names code numbers puts before at count mid i needed) where
    -- one is there
    pub next_asked : Standing (parameters_coding names count) code at → 0 < needed → Standing (parameter_coding names) code i
    next_asked s h =
        let more = r.some s.value s.rest s.stands in
        let f = first_of names code i needed more.others s.rest h more.stands in
        record { value = f.parameter; rest = encode_parameters f.others ++ s.rest; inside = r.inside; stands = f.stands }

    -- its byte in front is one of two
    pub next_known : Standing (parameters_coding names count) code at → 0 < needed → (i < length code) × (get_or code i 0 < 2)
    next_known s h = let b = parameter_at names (next_asked s h) in omega (arith, b.inside, b.kind)

    -- its end, by its kind
    pub next_ends : Standing (parameters_coding names count) code at → 0 < needed → (k : ParameterKind) → get_or code i 0 ≡ kind_byte k
        → Ends (parameter_coding names) code i (i + kind_size k)
    next_ends s h = let one = next_asked s h in kind_ends names code i one.value one.rest r.inside one.stands

    pub one_written : 0 < needed → {out : S} {j : ℕ}
        → Renumbers (parameter_coding names) rename_parameter code i numbers puts mid out
        → Ends (parameter_coding names) code i j
        → Remaining names code numbers puts before at count out j (needed - 1)
    unfolding rename_parameters encode_parameters
    one_written h {out} {j} w ends = record {
      inside = ends.inside;
      some = λ ps rest s.
          let more = r.some ps rest s in
          let f = first_of names code i needed more.others rest h more.stands in
          record {
            others = f.others;
            stands = f.behind j (ends.found f.parameter (encode_parameters f.others ++ rest) f.stands);
            left = piece_less laws (rw f.is at more.left) (w.put f.parameter (encode_parameters f.others ++ rest) f.stands);
          };
    }

    pub all_written : needed ≡ 0 → Renumbers (parameters_coding names count) rename_parameters code at numbers puts before mid
    unfolding Stands Several rename_parameters encode_parameters
    all_written none = record { put = λ ps rest s. let more = r.some ps rest s in go ps more.others (more.stands.0.1 ∙ none) more.left }
      where
        go : (ps qs : List (PropParameter ℕ)) → length qs ≡ 0
            → Left (encode_parameters (rename_parameters (mapped numbers) ps)) (encode_parameters (rename_parameters (mapped numbers) qs)) puts before mid
            → puts before (encode_parameters (rename_parameters (mapped numbers) ps)) mid
        go ps [] e l = none_left laws l
        go ps (q ∷ qs) e l = absurd (omega arith)
