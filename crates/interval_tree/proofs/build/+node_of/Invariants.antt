-- `node_of` ends, since the level falls.
use Rattle.interval_tree.proofs.build.+node_of.Given as goal

abbrev pub decreases-node_of : goal.decreases-node_of
decreases-node_of g l = l.level
