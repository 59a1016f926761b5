-- The lent buffer of bindings. Assumes nothing.
use Rattle.std.specs.Prelude.{◌≡◌, length}
use Rattle.bindings.specs.declared.Bindings.{Bindings}

-- the stack of c is the buffer that was lent to b, as long as it was
abbrev pub SameWork : Bindings → Bindings → Type 0
SameWork b c = (c.work.ghost_name ≡ b.work.ghost_name) × (length c.work.now ≡ length b.work.now)
