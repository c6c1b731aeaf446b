-- What holds of the words of commands.
use Rattle.std.specs.Prelude.{ℕ, ◌≡◌, List}
use Rattle.ax_ip.specs.Machine.{State}
use Rattle.tool_cmd.specs.declared.lives.settings.LifeSettings.{LifeSettings}
use Rattle.tool_cmd.specs.IpWords.{IsGateway}
use Rattle.tool_cmd.specs.LifeWords.{AreSettings}

-- words are those of one gateway at most
abbrev pub AreOfOneGateway : Type 0
AreOfOneGateway = (words : List (List ℕ)) (s t : State) → IsGateway words s → IsGateway words t → s ≡ t

-- and give the settings of one life at most
abbrev pub AreOfOneLife : Type 0
AreOfOneLife = (words : List (List ℕ)) (s t : LifeSettings) → AreSettings words s → AreSettings words t → s ≡ t
