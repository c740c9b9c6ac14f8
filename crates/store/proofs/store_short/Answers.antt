-- `store::store_short` meets its contract: the two sizes are those of the layout. Assumes nothing.
use Rattle.store.proofs.store_short.Goals as goal

pub returns : goal.returns
returns c = cc
