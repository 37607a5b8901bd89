-- What a handle owns: nothing, or what a box of its session does. Source: this project's own.
use Rattle.std.specs.Prelude.{Option, None, Some}
use Rattle.std.specs.Coded.{coded_option}
use base.Fml.{Fml, ftrue}
use base.Stored.{Coded}
use denote.RawPtr.{Ptr}
use Rattle.std.specs.Box.Ownership.{box_owns}
use Rattle.std.specs.Global.{Global}
use Rattle.std_heap.specs.contracts.GlobalAllocator.TheImpl.{ghosts}
use Rattle.engine_face.specs.contracts.session.Session.{the_row}

abbrev pub handle_owns : Global → Ptr → Option the_row.Denot → Fml
handle_owns alloc at None = ftrue
handle_owns alloc at (Some session) = box_owns (ghosts.dealloc_token alloc) the_row at session

abbrev pub maybe_coded : Coded (Option the_row.Denot)
maybe_coded = coded_option the_row.coded
