-- The root's byte, and then the code of each part, which has fewer connectives.
use Rattle.exercises.proofs.+put_sized.Given as goal

abbrev pub decreases-put_sized : goal.decreases-put_sized
decreases-put_sized g l = l.k
