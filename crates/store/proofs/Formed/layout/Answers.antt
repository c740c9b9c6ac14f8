-- A degree within its limits fits a u16. Assumes nothing.
use native.Mathlib.Omega.{arith}
use Rattle.store.proofs.Header.{header}
use Rattle.store.proofs.Formed.layout.Goals as goal

pub overflow_cast-result : goal.overflow_cast-result
overflow_cast-result c = let h = header c.args.self.words.now c.args.self.header in omega arith
