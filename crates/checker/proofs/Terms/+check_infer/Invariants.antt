-- The record's number falls, and where it stays, an arm is a function of its own, or what is checked is inferred.
use Prim.Native.Nat.{◌+◌, ◌*◌}
use Rattle.checker.proofs.Terms.+check_infer.Given as goal

abbrev pub decreases-check : goal.decreases-check
decreases-check l = 3 * l.m + 2

abbrev pub decreases-check_function : goal.decreases-check_function
decreases-check_function l = 3 * l.m

abbrev pub decreases-check_pair : goal.decreases-check_pair
decreases-check_pair l = 3 * l.m

abbrev pub decreases-check_case : goal.decreases-check_case
decreases-check_case l = 3 * l.m

abbrev pub decreases-infer : goal.decreases-infer
decreases-infer l = 3 * l.m + 1

abbrev pub decreases-infer_application : goal.decreases-infer_application
decreases-infer_application l = 3 * l.m

abbrev pub decreases-infer_function : goal.decreases-infer_function
decreases-infer_function l = 3 * l.m

abbrev pub decreases-infer_pair : goal.decreases-infer_pair
decreases-infer_pair l = 3 * l.m

abbrev pub decreases-infer_case : goal.decreases-infer_case
decreases-infer_case l = 3 * l.m
