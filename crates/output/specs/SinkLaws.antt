-- What every sink keeps: to put nothing leaves it as it was, and to put a text and then another is to put both at once.
use Rattle.std.specs.Prelude.{List, [], ◌++◌}

pub record SinkLaws {S A : Type 0} (puts : S → List A → S → Type 0) : Type 0 where
  pub none : (a : S) → puts a [] a
  pub then : {a b c : S} {s t : List A} → puts a s b → puts b t c → puts a (s ++ t) c
