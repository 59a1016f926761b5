-- The buffers of a walk. Assumes nothing.
use Rattle.std.specs.Prelude.{◌≡◌, length}
use Rattle.bindings.specs.Buffers.{SameWork}
use Rattle.answers.specs.declared.answer.Walk.{Walk}

-- the walk v writes to the two buffers that were lent to w, as long as they were
abbrev pub SameBuffers : Walk → Walk → Type 0
SameBuffers w v = (v.rows.ghost_name ≡ w.rows.ghost_name) × (length v.rows.now ≡ length w.rows.now) × SameWork w.bindings v.bindings
