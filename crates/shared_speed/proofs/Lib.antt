mod AddLemmas
mod HandleLemmas
mod ViewLemmas
