use Rattle.text.specs.declared.misread.Misread.{Misread}
use Rattle.text.specs.declared.misread.Misread.TheVariants as misread
use Rattle.outcome.specs.declared.failure.Failure.{Failure}
use Rattle.outcome.specs.declared.failure.Failure.TheVariants.{Unexpected, NoMemory}

-- why nothing is done for a line that is not understood
abbrev pub misread_as : Misread → Failure
misread_as (misread.Unexpected at expected) = Unexpected at expected
misread_as misread.NoMemory = NoMemory
