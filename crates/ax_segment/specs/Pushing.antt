-- What the joiner answers.
use Rattle.ax_segment.specs.declared.joined.Joined.{Joined}
use Rattle.ax_segment.specs.declared.joined.Joined.TheVariants as joined
use Rattle.ax_segment.specs.Joining.{Answer, More, Whole, Short, Broken}

-- what a segment has come to
abbrev pub answer_of : Joined → Answer
answer_of joined.More = More
answer_of (joined.Whole pid message) = Whole pid message.items
answer_of joined.Short = Short
answer_of (joined.Broken expected found) = Broken expected found
