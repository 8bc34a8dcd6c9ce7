-- As many first bytes of the text are the word.
use Rattle.std.proofs.Common.{◌∙◌}
use borrow.Author.Tests.{lt-leb}
use Rattle.text.proofs.WordLaws.{longer, same_begins}
use Rattle.text.proofs.bytes.begins_with.Goals as goal

pub returns-then-word-text : goal.returns-then-word-text
returns-then-word-text c = c.same.ensures ∙ same_begins _ _ c.if-word-text.true

pub returns-else-word-text : goal.returns-else-word-text
returns-else-word-text c = lt-leb _ _ c.if-word-text.false ∙ longer _ _ c.if-word-text.false
