use Rattle.std.proofs.Common.{◌≡◌, length}
use Rattle.nfer_cli.specs.Words.{no_options}
use Rattle.nfer_cli.specs.inner.Options.{given_by, taken, words_by}
use Rattle.nfer_cli.proofs.options.take_options.Given as goal

-- what all words give, those that are left give behind the options so far
abbrev pub invariant-options : goal.invariant-options
invariant-options l =
    taken (words_by l.fn.names) no_options l.fn.words
    ≡ taken (words_by l.names) (given_by l.options) l.rest

-- the words that are left
abbrev pub decreases-options : goal.decreases-options
decreases-options l = length l.rest
