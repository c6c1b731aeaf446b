use Rattle.network_soak.proofs.GoodFiles.{file_is_good, file_is_short}
use Rattle.network_soak.proofs.laws.soak_files_are_networks.Goals as goal

pub returns : goal.returns
returns c = record { networks = file_is_good; short = file_is_short }
