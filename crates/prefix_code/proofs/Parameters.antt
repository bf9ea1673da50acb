-- What the bytes at a position say of the parameters whose code stands there, and the other way round.
use Prim.Native.Nat.{ℕ, zero, suc, ◌+◌, ◌-◌, ◌≤◌, ◌<◌}
use mathlib.Core.Path.{◌≡◌, refl, sym, ap, ◌∙◌}
use mathlib.Core.Logic.{◌↔◌}
use mathlib.Core.List.{List, [], ◌∷◌, ◌++◌, append_assoc}
use native.Mathlib.Omega.{arith}
use lib.ListN.{length, drop, get_or}
use Rattle.definitions.specs.Sheet.{number_at}
use Rattle.definitions.specs.Prop.{PropParameter, Uninstantiated, Instantiated, parameter_name}
use Rattle.definitions.specs.Code.{u16, encode_parameter, encode_parameters, CodableParameter, CodableParameters}
use Rattle.definitions.proofs.Readings.{Bytes}
use Rattle.prefix_code.specs.Scan.{Stands, Absent, Ends, Several, parameter_coding, parameters_coding}
use Rattle.prefix_code.specs.Shape.{kind_byte, kind_size}
use Rattle.prefix_code.specs.declared.ParameterKind.{ParameterKind}
use Rattle.prefix_code.specs.declared.ParameterKind.TheVariants as kinds
use Rattle.prefix_code.proofs.Positions.{after, byte_stands, byte_at, number_stands, number_at_lem}
use Rattle.prefix_code.proofs.Runs.{Run, ends_at}

module _ (names : ℕ) where
  abbrev pub ParameterAt : List ℕ → ℕ → PropParameter ℕ → List ℕ → Type 0
  ParameterAt = Stands (parameter_coding names)

  -- the bytes of a parameter that stands at a position
  pub record ParameterBytes (l : List ℕ) (at : ℕ) (p : PropParameter ℕ) (rest : List ℕ) : Type 0 where
    pub inside : at + 3 ≤ length l
    pub name : number_at l (at + 1) ≡ parameter_name p
    pub below : parameter_name p < names
    pub kind : get_or l at 0 ≤ 1
    pub uninstantiated : get_or l at 0 ≡ 0 → (p ≡ Uninstantiated (number_at l (at + 1))) × (drop (at + 3) l ≡ rest)
    pub instantiated : get_or l at 0 ≡ 1
        → (p ≡ Instantiated (number_at l (at + 1)) (number_at l (at + 3))) × (at + 5 ≤ length l) × (drop (at + 5) l ≡ rest)

  pub parameter_bytes : (l : List ℕ) (at : ℕ) (p : PropParameter ℕ) (rest : List ℕ) → ParameterAt l at p rest → ParameterBytes l at p rest
  unfolding Stands encode_parameter CodableParameter parameter_name u16
  parameter_bytes l at (Uninstantiated x) rest (g, e) =
      let b = byte_at l at (at + 1) 0 (u16 x ++ rest) (omega arith) e in
      let n = number_at_lem l (at + 1) (at + 3) x rest (omega arith) b.next in
      record {
        inside = omega (arith, n.inside);
        name = n.value;
        below = g;
        kind = omega (arith, b.value);
        uninstantiated = λ _. (ap Uninstantiated (sym n.value), n.next);
        instantiated = λ h. absurd (omega (arith, b.value));
      }
  parameter_bytes l at (Instantiated x i) rest (g, e) =
      let b = byte_at l at (at + 1) 1 (u16 x ++ (u16 i ++ rest)) (omega arith) e in
      let n = number_at_lem l (at + 1) (at + 3) x (u16 i ++ rest) (omega arith) b.next in
      let m = number_at_lem l (at + 3) (at + 5) i rest (omega arith) n.next in
      record {
        inside = omega (arith, n.inside);
        name = n.value;
        below = g.0;
        kind = omega (arith, b.value);
        uninstantiated = λ h. absurd (omega (arith, b.value));
        instantiated = λ _. (cc, omega (arith, m.inside), m.next);
      }

  -- where the bytes are those of no parameter
  pub no_parameter : (l : List ℕ) (at : ℕ) → ((p : PropParameter ℕ) (rest : List ℕ) → ParameterBytes l at p rest → ⊥)
      → Absent (parameter_coding names) l at
  no_parameter l at none p rest s = none p rest (parameter_bytes l at p rest s)

  module _ (l : List ℕ) (at : ℕ) (bytes : Bytes l) (below : number_at l (at + 1) < names) where
    -- the parameter that the bytes at a position are
    pub uninstantiated_stands : at + 3 ≤ length l → get_or l at 0 ≡ 0 → ParameterAt l at (Uninstantiated (number_at l (at + 1))) (drop (at + 3) l)
    unfolding Stands encode_parameter CodableParameter
    uninstantiated_stands h b =
        let kind = byte_stands l at (at + 1) (omega arith) (omega arith) in
        let name = number_stands l (at + 1) (at + 3) (omega arith) bytes (omega arith) in
        (below, cc)

    pub instantiated_stands : at + 5 ≤ length l → get_or l at 0 ≡ 1
        → ParameterAt l at (Instantiated (number_at l (at + 1)) (number_at l (at + 3))) (drop (at + 5) l)
    unfolding Stands encode_parameter CodableParameter u16 number_at
    instantiated_stands h b =
        let kind = byte_stands l at (at + 1) (omega arith) (omega arith) in
        let name = number_stands l (at + 1) (at + 3) (omega arith) bytes (omega arith) in
        let id = number_stands l (at + 3) (at + 5) (omega arith) bytes (omega arith) in
        ((below, omega (arith, bytes (at + 3), bytes (at + 3 + 1))), cc)

    -- by its kind
    pub kind_stands : (k : ParameterKind) → get_or l at 0 ≡ kind_byte k → at + kind_size k ≤ length l
        → (p : PropParameter ℕ) × ParameterAt l at p (drop (at + kind_size k) l)
    kind_stands kinds.Uninstantiated b h = (_, uninstantiated_stands h b)
    kind_stands kinds.Instantiated b h = (_, instantiated_stands h b)

  -- a parameter of a kind has its bytes
  pub kind_bytes : {l : List ℕ} {at : ℕ} {p : PropParameter ℕ} {rest : List ℕ} → ParameterBytes l at p rest → (k : ParameterKind) → get_or l at 0 ≡ kind_byte k
      → (at + kind_size k ≤ length l) × (drop (at + kind_size k) l ≡ rest)
  kind_bytes b kinds.Uninstantiated is = (b.inside, (b.uninstantiated is).1)
  kind_bytes b kinds.Instantiated is = let i = b.instantiated is in (i.1, i.2)

  -- and ends behind them
  pub kind_ends : (l : List ℕ) (at : ℕ) (p : PropParameter ℕ) (rest : List ℕ) → at ≤ length l → ParameterAt l at p rest → (k : ParameterKind)
      → get_or l at 0 ≡ kind_byte k → Ends (parameter_coding names) l at (at + kind_size k)
  kind_ends l at p rest start s k is =
      let (inside, next) = kind_bytes (parameter_bytes l at p rest s) k is in
      ends_at (parameter_coding names) l at (at + kind_size k) start inside
      (λ q more t. (kind_bytes (parameter_bytes l at q more t) k is).1)
      (p, rw next s)

  -- the first of some parameters that stand at a position, and the others
  pub record FirstParameter (l : List ℕ) (at needed : ℕ) (ps : List (PropParameter ℕ)) (rest : List ℕ) : Type 0 where
    pub parameter : PropParameter ℕ
    pub others : List (PropParameter ℕ)
    pub is : ps ≡ parameter ∷ others
    pub first : ParameterAt l at parameter (encode_parameters others ++ rest)
    pub stands : Stands (parameters_coding names (needed - 1)) l (at + length (encode_parameter parameter)) others rest

  module _ (l : List ℕ) (at needed : ℕ) where
    pub first_parameter : (ps : List (PropParameter ℕ)) (rest : List ℕ) → 0 < needed
        → Stands (parameters_coding names needed) l at ps rest → FirstParameter l at needed ps rest
    unfolding Stands Several CodableParameters encode_parameters
    first_parameter [] rest more ((g, c), e) = absurd (omega arith)
    first_parameter (p ∷ ps) rest more ((g, c), e) =
        let next = e ∙ append_assoc (encode_parameter p) (encode_parameters ps) rest in
        let later = after l at (encode_parameter p) (encode_parameters ps ++ rest) next in
        record { parameter = p; others = ps; is = refl; first = (g.0, next); stands = ((g.1, omega arith), later) }

    pub none_stand : (ps : List (PropParameter ℕ)) (rest : List ℕ) → needed ≤ 0
        → Stands (parameters_coding names needed) l at ps rest → ps ≡ []
    unfolding Stands Several
    none_stand [] rest none s = refl
    none_stand (p ∷ ps) rest none ((g, c), e) = absurd (omega arith)

  -- a list of parameters is a run of them
  parameters_run : (ps : List (PropParameter ℕ)) (rest : List ℕ) → CodableParameters names ps
      → Run (parameter_coding names) (length ps) (encode_parameters ps ++ rest) rest
  unfolding CodableParameters encode_parameters
  parameters_run [] rest g = refl
  parameters_run (p ∷ ps) rest g = (
    p,
    encode_parameters ps ++ rest,
    g.0,
    append_assoc (encode_parameter p) (encode_parameters ps) rest,
    parameters_run ps rest g.1,
  )

  run_parameters : (n : ℕ) (xs rest : List ℕ) → Run (parameter_coding names) n xs rest
      → (ps : List (PropParameter ℕ)) × Several names n ps × (xs ≡ encode_parameters ps ++ rest)
  unfolding Several CodableParameters encode_parameters
  run_parameters zero xs rest r = ([], (tt, refl), r)
  run_parameters (suc n) xs rest (p, ys, g, e, r) =
      let (ps, s, t) = run_parameters n ys rest r in (
        p ∷ ps,
        ((g, s.0), ap suc s.1),
        e ∙ ap (λ (zs : List ℕ). encode_parameter p ++ zs) t ∙ sym (append_assoc (encode_parameter p) (encode_parameters ps) rest),
      )

  pub several_run : (count : ℕ) (xs rest : List ℕ)
      → Run (parameters_coding names count) 1 xs rest ↔ Run (parameter_coding names) count xs rest
  unfolding Several
  several_run count xs rest = (forth, back)
    where
      forth : Run (parameters_coding names count) 1 xs rest → Run (parameter_coding names) count xs rest
      forth (ps, ys, (g, n), e, t) = rw (e, ← n, ← t) (parameters_run ps ys g)

      back : Run (parameter_coding names) count xs rest → Run (parameters_coding names count) 1 xs rest
      back r = let (ps, s, e) = run_parameters count xs rest r in (ps, rest, s, e, refl)
