-- What a caller in C is handed of a graft: beside a number, a value and a column, whose a refusal is.
use Rattle.std.specs.Prelude.{ℕ, ◌≡◌, List, length}
use Rattle.definitions.specs.declared.Whose.{Whose}
use Rattle.definitions.specs.declared.Whose.TheVariants.{Neither, Host, Donor}
use Rattle.definitions.specs.Graft.{Grafted, refused_by, merged, graft_answer, located_by}
use Rattle.grafting.specs.Answered.{filled_by}
use Rattle.made_length.specs.Whole.{whole_graft, graft_in_room}

-- 0 neither sheet's, 1 the host's, 2 the donor's
unfoldable pub whose_number : Whose → ℕ
whose_number Neither = 0
whose_number Host = 1
whose_number Donor = 2

-- the result, the value and whose it is
unfoldable pub number_by : Grafted → ℕ
number_by (refused_by w r) = r.number
number_by (merged m) = 0

unfoldable pub value_by : Grafted → ℕ
value_by (refused_by w r) = r.place
value_by (merged m) = length m

unfoldable pub whose_by : Grafted → ℕ
whose_by (refused_by w r) = whose_number w
whose_by (merged m) = 0

-- the column that the refusal hands back
unfoldable pub column_by : List ℕ → List ℕ → Grafted → ℕ
column_by h d (refused_by w r) = (located_by h d w r).column
column_by h d (merged m) = 0

-- all four, whatever they were before, and the lent memory
pub record HandsGrafted (h d : List ℕ) (k : ℕ) (before after : List ℕ) (value column whose result : ℕ) : Type 0 where
  pub number : result ≡ number_by (graft_answer h d k (length before))
  pub said : value ≡ value_by (graft_answer h d k (length before))
  pub drawn : column ≡ column_by h d (graft_answer h d k (length before))
  pub by : whose ≡ whose_by (graft_answer h d k (length before))
  pub memory : after ≡ filled_by (graft_answer h d k (length before)) before

-- all four of a graft's answer
pub record HandsBy (h d : List ℕ) (o : Grafted) (value column whose result : ℕ) : Type 0 where
  pub number : result ≡ number_by o
  pub said : value ≡ value_by o
  pub drawn : column ≡ column_by h d o
  pub by : whose ≡ whose_by o

-- the length of the merged sheet; the graft in a room is the whole one or 16
pub record HandsGraftLength (h d : List ℕ) (k value column whose result : ℕ) : Type 0 where
  pub handed : HandsBy h d (whole_graft h d k) value column whose result
  pub in_room : (room : ℕ) → graft_answer h d k room ≡ graft_in_room room (whole_graft h d k)
