-- Eight digits at once say what the field says; where one is none it is looked for as in any field.
use Rattle.frame.proofs.Reading.{field_says}
use Rattle.frame.proofs.read_long.Goals as goal

pub returns-in-Some : goal.returns-in-Some
returns-in-Some c = field_says _ _ 8 _ c.in-Some.ensures
