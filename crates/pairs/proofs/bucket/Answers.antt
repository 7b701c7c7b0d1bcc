-- The bucket is the one of the definition.
use mathlib.Core.Path.{refl}
use Rattle.pairs.specs.Names.{bucket_of}
use borrow.Author.Rules.{rules}
use Rattle.pairs.proofs.bucket.Goals as goal

pub returns : goal.returns
unfolding bucket_of
returns c = (refl, search rules)
