-- A length is handed over as it is, a refusal by its parts and whose it is.
use mathlib.Core.Path.{◌≡◌, refl}
use denote.Enum.Declared.{tag_of}
use Rattle.definitions.specs.contracts.Whose.{the_type}
use Rattle.definitions.specs.declared.Whose.{Whose}
use Rattle.definitions.specs.declared.Whose.TheVariants.{Neither, Host, Donor}
use Rattle.skriduhol_c.specs.Grafts.{whose_number}
use Rattle.skriduhol_c.proofs.Grafts.{length_handed, refusal_handed}
use Rattle.skriduhol_c.proofs.hand_grafted.Goals as goal

-- the number of a variant is that of whose a refusal is
number_is : (w : Whose) → tag_of the_type w ≡ whose_number w
unfolding whose_number
number_is Neither = refl
number_is Host = refl
number_is Donor = refl

pub returns-in-Ok : goal.returns-in-Ok
returns-in-Ok c = λ h d o e. length_handed h d c.in-Ok.is c.hand.ensures o e

pub returns-in-Err : goal.returns-in-Err
returns-in-Err c = λ h d o e. refusal_handed h d c.in-Err.is c.hand-in-Err.ensures (number_is c.in-Err.by) o e
