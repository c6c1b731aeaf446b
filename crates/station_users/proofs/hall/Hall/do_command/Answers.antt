use Rattle.std.proofs.Common.{OnOk, subst, sym}
use Rattle.station_prompt.specs.Asked.{asked}
use Rattle.station_prompt.specs.declared.command.Command.{Command}
use Rattle.station_users.specs.Asking.{do_command}
use Rattle.station_users.specs.Standing.{HallGoes}
use Rattle.station_users.proofs.hall.Hall.do_command.Goals as goal

pub returns-in-ConnectByPort : goal.returns-in-ConnectByPort
returns-in-ConnectByPort c =
    subst (λ (it : Command). OnOk c.connect_by_port.result
    (HallGoes (do_command (asked it) c.args.nth c.args.turn.moment) c.args.self.now c.connect_by_port.new.self))
    (sym c.in-ConnectByPort.is) c.connect_by_port.ensures
