-- The mails that are queued, by what the code keeps of them. No public clause cites it: not for the reader of a contract.
use Rattle.std.specs.Prelude.{ℕ, ◌≢◌, ◌<◌, ◌≤◌, List, [], ◌∷◌, map}
use Rattle.std.specs.List.{AllByRecursion}
use Rattle.node_mail.specs.declared.queued_mails.QueuedMail.{QueuedMail}
use Rattle.node_mail.specs.Wires.{IsNumber, IsText}
use Rattle.node_mail.specs.Lists.{Letter}

-- a queue: the number that was given last, and the mails
pub record QueueView : Type 0 where
  pub last : ℕ
  pub letters : List Letter

abbrev pub letter_in : QueuedMail → Letter
letter_in q = record { number = q.number; to = q.to; dest = q.dest; text = q.text.items }

abbrev pub letters : List QueuedMail → List Letter
letters qs = map letter_in qs

-- each number is below those behind it
abbrev pub Rises : List Letter → Type 0
Rises [] = Unit {0}
Rises (l ∷ ls) = AllByRecursion (λ (x : Letter). l.number < x.number) ls × Rises ls

-- no mail has that number
abbrev pub HasNone : ℕ → List Letter → Type 0
HasNone number ls = AllByRecursion (λ (x : Letter). x.number ≢ number) ls

-- it can be written
abbrev pub IsLetter : Letter → Type 0
IsLetter l = IsNumber l.number × IsText l.text

-- by number, none past the last that was given, and each can be written
pub record IsInOrder (last : ℕ) (ls : List Letter) : Type 0 where
  pub rises : Rises ls
  pub most : AllByRecursion (λ (x : Letter). x.number ≤ last) ls
  pub each : AllByRecursion IsLetter ls
