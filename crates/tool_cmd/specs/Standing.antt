-- The state that a gateway stands for.
use Rattle.ax_ip.specs.Machine.{State, state}
use Rattle.tool_cmd.specs.declared.ip.gateway.Gateway.{Gateway}

abbrev pub state_of : Gateway → State
state_of gateway = state gateway.forwarder
