-- For `using`, which names no lemma with a dash.
use lib.Seq.{length-take-le}

pub ruleset room = (length-take-le)
