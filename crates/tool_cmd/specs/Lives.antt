-- What `life` reads, and what it writes of it. Own profile.
use Rattle.std.specs.Prelude.{ℕ, ◌≡◌, List, Option, Ok}
use Rattle.link_life.specs.declared.act.NumberedAct.{NumberedAct}
use Rattle.link_life.specs.Lives.{new_life}
use Rattle.link_life.specs.Reports.{life_text}
use Rattle.link_life.specs.Lines.{script_of}
use Rattle.tool_cmd.specs.declared.lives.settings.LifeSettings.{LifeSettings}
use Rattle.radio_base.specs.Modulus.{modulus_size}
use Rattle.cmd_streams.specs.Told.{StreamsTold}
use Rattle.cmd_streams.specs.Reading.{ReadsFile, TellsFile}

-- the report of the life of a script, by these settings
abbrev pub report_of : LifeSettings → List NumberedAct → List ℕ
report_of s acts = life_text (new_life (modulus_size s.modulus) s.srej s.delay) acts

-- a file is a script of which P holds
abbrev pub IsScript : List ℕ → (List NumberedAct → Type 0) → Type 0
IsScript bytes P = (acts : List NumberedAct) × (script_of bytes ≡ Ok acts) × P acts

-- a file was read to its end, and it is such a script
abbrev pub ReadsScript : StreamsTold → StreamsTold → (List NumberedAct → Type 0) → Type 0
ReadsScript before after P = ReadsFile before.left after.left (λ bytes. IsScript bytes P)

-- the source tells its bytes, and they are a script
abbrev pub TellsScript : Option (List ℕ) → Type 0
TellsScript left = TellsFile left (λ bytes. (acts : List NumberedAct) × (script_of bytes ≡ Ok acts))
