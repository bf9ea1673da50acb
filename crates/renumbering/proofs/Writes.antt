-- A text is put piece by piece: once what is left of it is put, all of it is.
use mathlib.Core.List.{List, [], ◌++◌}
use Prim.Native.Nat.{ℕ}
use Rattle.output.specs.SinkLaws.{SinkLaws}

pub record Left {S : Type 0} (text left : List ℕ) (puts : S → List ℕ → S → Type 0) (before mid : S) : Type 0 where
  pub all : (after : S) → puts mid left after → puts before text after

module _ {S : Type 0} {puts : S → List ℕ → S → Type 0} {text : List ℕ} {before : S} where
  pub all_left : Left text text puts before before
  all_left = record { all = λ after w. w }

  pub piece_less : {piece left : List ℕ} {mid after : S} → SinkLaws puts → Left text (piece ++ left) puts before mid → puts mid piece after
      → Left text left puts before after
  piece_less laws l w = record { all = λ after v. l.all after (laws.then w v) }

  pub none_left : {mid : S} → SinkLaws puts → Left text [] puts before mid → puts before text mid
  none_left {mid} laws l = l.all mid (laws.none mid)
