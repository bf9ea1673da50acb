-- Sheets with quantifiers.
use Rattle.std.specs.Prelude.{ℕ, List, [], ◌∷◌, ◌++◌}
use Rattle.definitions.specs.Prop.{Prop, Impl, Atom, ForAll, Exists, Uninstantiated, Instantiated}
use Rattle.definitions.specs.Tree.{Identifier, ImplIntro, Ident, ForAllIntro, ForAllElim, ExistsIntro, ExistsElim}
use Rattle.definitions.specs.Code.{u16}
use Rattle.definitions.specs.Encode.{no_identifier, encode_identifier, encode_rule, encode_prop_is_true}
use Rattle.definitions.specs.Drawings.{the, sheet, step, step_naming}

-- x with id 7, by its name's number
unfoldable pub seventh : ℕ → Identifier ℕ
seventh x = record { name = x; unique_id = 7 }

-- Ident of an object of that datatype
unfoldable pub judgement : ℕ → ℕ → List ℕ
judgement x d = encode_rule Ident 0 (seventh x) no_identifier ++ (u16 1 ++ (encode_identifier (seventh x) ++ (u16 d ++ u16 0)))

unfoldable pub of_bound : ℕ → Prop ℕ
of_bound y = Atom 0 (Uninstantiated y ∷ [])

unfoldable pub of_object : ℕ → Prop ℕ
of_object x = Atom 0 (Instantiated x 7 ∷ [])

-- (∀y:T. P(y)) ⊃ ∀z:T. P(z): `fn u => fn x => u x`
unfoldable pub universal : List ℕ
universal =
    sheet ("P" ∷ "T" ∷ "u" ∷ "x" ∷ "y" ∷ "z" ∷ [])
    (Impl (ForAll 4 1 (of_bound 4)) (ForAll 5 1 (of_bound 5)) ∷ ForAll 4 1 (of_bound 4) ∷ ForAll 5 1 (of_bound 5) ∷ of_object 3 ∷ []) 0
    (step_naming Ident 2 0 1 ∷ judgement 3 1 ∷ step ForAllElim 2 3
    ∷ (encode_rule ForAllIntro 1 (seventh 3) no_identifier ++ encode_prop_is_true 2 0) ∷ step_naming ImplIntro 2 1 0 ∷ [])

-- (∃y:T. P(y)) ⊃ ∃z:T. P(z): `fn v => let (x, h) = v in (x, h)`
unfoldable pub existential : List ℕ
existential =
    sheet ("P" ∷ "T" ∷ "v" ∷ "x" ∷ "y" ∷ "z" ∷ "h" ∷ [])
    (Impl (Exists 4 1 (of_bound 4)) (Exists 5 1 (of_bound 5)) ∷ Exists 4 1 (of_bound 4) ∷ Exists 5 1 (of_bound 5) ∷ of_object 3 ∷ []) 0
    (step_naming Ident 2 0 1 ∷ judgement 3 1 ∷ step_naming Ident 6 0 3 ∷ step ExistsIntro 2 2
    ∷ (encode_rule ExistsElim 2 (seventh 3) (the 6) ++ encode_prop_is_true 2 0) ∷ step_naming ImplIntro 2 1 0 ∷ [])
