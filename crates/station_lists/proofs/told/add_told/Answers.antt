use Rattle.station_lists.proofs.told.add_told.Goals as goal

pub returns-in-Failure : goal.returns-in-Failure
returns-in-Failure c = rw c.in-Failure.is c.add_named-in-Failure.ensures

pub returns-in-LinkFailed : goal.returns-in-LinkFailed
returns-in-LinkFailed c = rw c.in-LinkFailed.is c.add_named-in-LinkFailed.ensures

pub returns-in-UnknownCommand : goal.returns-in-UnknownCommand
returns-in-UnknownCommand c = rw c.in-UnknownCommand.is c.add_about-in-UnknownCommand.ensures

pub returns-in-WrongWords : goal.returns-in-WrongWords
returns-in-WrongWords c = rw (c.in-WrongWords.is, ← c.as_bytes.ensures.value) c.add_about-in-WrongWords.ensures

pub returns-in-NoSuchPort : goal.returns-in-NoSuchPort
returns-in-NoSuchPort c = rw c.in-NoSuchPort.is c.add_about-in-NoSuchPort.ensures

pub returns-in-NoCircuits : goal.returns-in-NoCircuits
returns-in-NoCircuits c = rw c.in-NoCircuits.is c.text-in-NoCircuits.ensures.ok

pub returns-in-NoMail : goal.returns-in-NoMail
returns-in-NoMail c = rw c.in-NoMail.is c.text-in-NoMail.ensures.ok

pub returns-in-GoingDown : goal.returns-in-GoingDown
returns-in-GoingDown c = rw c.in-GoingDown.is c.text-in-GoingDown.ensures.ok
