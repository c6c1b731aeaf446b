-- The answers of the code as what they ask for.
use Rattle.std.specs.Prelude.{ℕ, List, Option, Result, Ok, Err}
use Rattle.std.specs.Borrow.{Bor}
use Rattle.std.specs.Option.{option_map}
use Rattle.text_lines.specs.Lines.{texts}
use Rattle.station_prompt.specs.Commands.{Destinations, Shown, Every, Beginning, Routes_to, Asked, Nothing, Circuit, Link, Known, Heard, Alone, Refused, Unknown_command, Wrong_words}
use Rattle.station_prompt.specs.MailCommands as mail
use Rattle.station_prompt.specs.declared.command.Command.{Command}
use Rattle.station_prompt.specs.declared.command.Command.TheVariants as cmd
use Rattle.station_prompt.specs.declared.command.NodesAsked.{NodesAsked}
use Rattle.station_prompt.specs.declared.command.NodesAsked.TheVariants as asks
use Rattle.station_prompt.specs.declared.line_refusal.LineRefusal.{LineRefusal}
use Rattle.station_prompt.specs.declared.line_refusal.LineRefusal.TheVariants.{UnknownCommand, WrongWords}
use Rattle.station_prompt.specs.declared.mail_command.MailCommand.{MailCommand}
use Rattle.station_prompt.specs.declared.mail_command.MailCommand.TheVariants as mailcmd
use Rattle.station_prompt.specs.declared.mail_verb.MailVerb.{MailVerb}
use Rattle.station_prompt.specs.declared.mail_verb.MailVerb.TheVariants as mailverb
use Rattle.station_prompt.specs.declared.verb.Verb.{Verb}
use Rattle.station_prompt.specs.declared.verb.Verb.TheVariants as verb

-- what a reference points to, where there is one
abbrev pub text : Option (Bor (List ℕ)) → Option (List ℕ)
text word = option_map (λ w. w.now) word

abbrev pub nodes_asked : NodesAsked → Destinations
nodes_asked asks.Shown = Shown
nodes_asked asks.All = Every
nodes_asked (asks.Beginning front) = Beginning front.now
nodes_asked (asks.RoutesTo word) = Routes_to word.now

abbrev pub asked : Command → Asked
asked cmd.Nothing = Nothing
asked (cmd.Connect to) = Circuit to.now
asked (cmd.ConnectByPort port to via) = Link port.now to.now (texts via.now)
asked (cmd.Nodes nodes) = Known (nodes_asked nodes)
asked cmd.Routes = Alone verb.Routes
asked cmd.Users = Alone verb.Users
asked cmd.Ports = Alone verb.Ports
asked (cmd.MHeard port) = Heard (text port)
asked cmd.Links = Alone verb.Links
asked cmd.Stats = Alone verb.Stats
asked cmd.Info = Alone verb.Info
asked cmd.Version = Alone verb.Version
asked cmd.Mail = Alone verb.Mail
asked cmd.Bye = Alone verb.Bye
asked cmd.Help = Alone verb.Help

abbrev pub if_asked : Option Command → Option Asked
if_asked command = option_map asked command

abbrev pub refused : {V : Type 0} → LineRefusal V → Refused V
refused (UnknownCommand word) = Unknown_command word.now
refused (WrongWords verb) = Wrong_words verb

abbrev pub asked_by : Result Command (LineRefusal Verb) → Result Asked (Refused Verb)
asked_by (Ok command) = Ok (asked command)
asked_by (Err why) = Err (refused why)

abbrev pub mail_asked : MailCommand → mail.Asked
mail_asked mailcmd.Nothing = mail.Nothing
mail_asked mailcmd.List = mail.Alone mailverb.List
mail_asked (mailcmd.Read number) = mail.Numbered mailverb.Read number.now
mail_asked (mailcmd.Kill number) = mail.Numbered mailverb.Kill number.now
mail_asked mailcmd.Queued = mail.Alone mailverb.Queued
mail_asked (mailcmd.Send to post) = mail.Letter to.now (text post)
mail_asked mailcmd.Bye = mail.Alone mailverb.Bye
mail_asked mailcmd.Help = mail.Alone mailverb.Help

abbrev pub if_mail_asked : Option MailCommand → Option mail.Asked
if_mail_asked command = option_map mail_asked command

abbrev pub mail_asked_by : Result MailCommand (LineRefusal MailVerb) → Result mail.Asked (Refused MailVerb)
mail_asked_by (Ok command) = Ok (mail_asked command)
mail_asked_by (Err why) = Err (refused why)
