-- A text as its UTF-8 bytes.
use Rattle.std.specs.Prelude.{ℕ, ◌+◌, ◌/◌, ◌%◌, cond, List, ◌++◌, ltb}
use Prim.Native.Char.{code}
use Prim.Native.String.{String, [], ◌∷◌}
use mathlib.Core.List as list

-- one byte
abbrev byte : ℕ → List ℕ
byte b = list.◌∷◌ b list.[]

-- the bytes of the character with code point n, at most three of them: document 01 prints none beyond
abbrev pub utf8_char : ℕ → List ℕ
utf8_char n =
    cond (ltb n 128) (byte n)
    (cond (ltb n 2048) (byte (192 + n / 64) ++ byte (128 + n % 64))
    (byte (224 + n / 4096) ++ byte (128 + (n / 64) % 64) ++ byte (128 + n % 64)))

abbrev pub utf8 : String → List ℕ
utf8 [] = list.[]
utf8 (c ∷ s) = utf8_char (code c) ++ utf8 s
