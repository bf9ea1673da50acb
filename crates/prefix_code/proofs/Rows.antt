-- A proposition is a head and its parts: behind the head of the first one of a row stands a row again.
use Prim.Native.Nat.{ℕ}
use mathlib.Core.Path.{◌≡◌, refl}
use mathlib.Core.List.{List, [], ◌∷◌, ◌++◌, append_assoc, append-nil, flat_map}
use Rattle.std.proofs.lemmas.Grind.{flat_map-append}
use Rattle.definitions.specs.Prop.{Prop, True, False, Binary, Atom, Quantified}
use Rattle.definitions.specs.Code.{u16, encode, Codable}
use Rattle.prefix_code.specs.Head.{Head, TrueHead, FalseHead, BinaryHead, AtomHead, QuantifiedHead, encode_head, CodableHead}
use Rattle.prefix_code.specs.Row.{encode_row, CodableRow}
use Rattle.prefix_code.specs.Scan.{Stands, At}
use Rattle.prefix_code.proofs.Heads.{HeadAt}

abbrev pub head_of : Prop ℕ → Head
head_of True = TrueHead
head_of False = FalseHead
head_of (Binary c p q) = BinaryHead c
head_of (Atom a ps) = AtomHead a ps
head_of (Quantified q x t p) = QuantifiedHead q x t

abbrev pub parts : Prop ℕ → List (Prop ℕ)
parts True = []
parts False = []
parts (Binary c p q) = p ∷ q ∷ []
parts (Atom a ps) = []
parts (Quantified q x t p) = p ∷ []

head_code : (p : Prop ℕ) → encode p ≡ encode_head (head_of p) ++ encode_row (parts p)
unfolding encode encode_head flat_map u16
head_code True = refl
head_code False = refl
head_code (Binary c p q) = rw append-nil
head_code (Atom a ps) = rw append-nil
head_code (Quantified q x t p) = rw append-nil

pub row_code : (p : Prop ℕ) (ps : List (Prop ℕ)) → encode_row (p ∷ ps) ≡ encode_head (head_of p) ++ encode_row (parts p ++ ps)
unfolding flat_map
row_code p ps = cc (
  head_code p,
  flat_map-append encode (parts p) ps,
  append_assoc (encode_head (head_of p)) (encode_row (parts p)) (encode_row ps),
)

module _ (names : ℕ) where
  pub head_codable : (p : Prop ℕ) → Codable names p → CodableHead names (head_of p) × CodableRow names (parts p)
  unfolding Codable CodableHead CodableRow
  head_codable True g = (tt, tt)
  head_codable False g = (tt, tt)
  head_codable (Binary c p q) g = (tt, (g.0, (g.1, tt)))
  head_codable (Atom a ps) g = (g, tt)
  head_codable (Quantified q x t p) g = ((g.0, g.1), (g.2, tt))

  -- where a proposition stands its head does
  pub head_there : (code : List ℕ) (at : ℕ) (p : Prop ℕ) (rest : List ℕ) → At names code at p rest
      → HeadAt names code at (head_of p) (encode_row (parts p) ++ rest)
  unfolding Stands
  head_there code at p rest (g, e) =
      ((head_codable p g).0, cc (e, head_code p, append_assoc (encode_head (head_of p)) (encode_row (parts p)) rest))

  pub codable_append : (ps qs : List (Prop ℕ)) → CodableRow names ps → CodableRow names qs → CodableRow names (ps ++ qs)
  unfolding CodableRow
  codable_append [] qs f g = g
  codable_append (p ∷ ps) qs f g = (f.0, codable_append ps qs f.1 g)
