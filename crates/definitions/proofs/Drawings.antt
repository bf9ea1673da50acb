-- By computation: every drawing is answered as its document says, and is written with the reader's rule bytes.
use mathlib.Core.Path.{◌≡◌, refl}
use mathlib.Core.List.{[], ◌∷◌, map}
use lib.ListN.{length}
use Rattle.definitions.specs.Tree.{rules}
use Rattle.definitions.specs.Encode.{rule_number}
use Rattle.definitions.specs.Drawings.{smallest, drawings, temptations, strict_drawings, handouts, columns, restatements, exercise_drawings, indexes, asked, expected}
use Rattle.definitions.proofs.Everything.{everything}

pub drawings_hold : map asked drawings ≡ map expected drawings
unfolding everything
drawings_hold = refl

pub temptations_hold : map asked temptations ≡ map expected temptations
unfolding everything
temptations_hold = refl

pub strict_drawings_hold : map asked strict_drawings ≡ map expected strict_drawings
unfolding everything
strict_drawings_hold = refl

pub handouts_hold : map asked handouts ≡ map expected handouts
unfolding everything
handouts_hold = refl

pub columns_hold : map asked columns ≡ map expected columns
unfolding everything
columns_hold = refl

pub restatements_hold : map asked restatements ≡ map expected restatements
unfolding everything
restatements_hold = refl

pub exercises_hold : map asked exercise_drawings ≡ map expected exercise_drawings
unfolding everything
exercises_hold = refl

pub indexes_hold : map asked indexes ≡ map expected indexes
unfolding everything
indexes_hold = refl

pub smallest_size : length smallest ≡ 37
unfolding everything
smallest_size = refl

-- the writer's byte of each rule is the one that the reader knows it by
pub rules_numbered : map rule_number rules ≡ 0 ∷ 1 ∷ 2 ∷ 3 ∷ 4 ∷ 5 ∷ 6 ∷ 7 ∷ 8 ∷ 9 ∷ 10 ∷ 11 ∷ 12 ∷ 13 ∷ 14 ∷ 15 ∷ 16 ∷ []
unfolding everything
rules_numbered = refl
