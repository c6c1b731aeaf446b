-- What a joiner holds, by its fields.
use Rattle.std.specs.Prelude.{◌==◌, if◌then◌else◌}
use Rattle.ax_segment.specs.declared.gathered.Gathered.{Gathered}
use Rattle.ax_segment.specs.Joining.{HeldMessage, Nothing, Part}

-- what is held
abbrev pub held_at : Gathered → HeldMessage
held_at g = if g.to_come == 0 then Nothing else Part g.pid g.bytes.items g.to_come
