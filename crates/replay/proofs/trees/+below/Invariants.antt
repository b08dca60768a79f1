-- The levels fall at each call.
use Rattle.replay.proofs.trees.+below.Given as goal

abbrev pub decreases-below : goal.decreases-below
decreases-below g l = l.levels
