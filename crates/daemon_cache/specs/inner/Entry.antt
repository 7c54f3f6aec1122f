-- The rules of a cache entry, and the requests that it serves.
use Rattle.std.specs.Prelude.{◌≡◌}
use Rattle.path_server.specs.Lookup.{Selection}
use Rattle.combinator.specs.Answer.{AnswerValue}
use Rattle.combinator.specs.Lasting.{AreAllLive}
use Rattle.daemon_cache.specs.Request.{RequestValue, IsAnswerToRequest}

-- an entry: a request, the segments of its lookup, and the answer made of them
pub record CachedAnswer : Type 0 where
  pub request : RequestValue
  pub set : Selection
  pub answer : AnswerValue

-- the answer is one to the request from the entry's segments, which are all live at the second of
-- their lookup
pub record IsOwn (request : RequestValue) (set : Selection) (answer : AnswerValue) : Type 0 where
  pub answers : IsAnswerToRequest request set answer
  pub live : AreAllLive set set.moment

-- the sets have the same segments in the same order; their seconds may differ
pub record HasSegmentsOf (set other : Selection) : Type 0 where
  pub ups : set.ups ≡ other.ups
  pub cores : set.cores ≡ other.cores
  pub downs : set.downs ≡ other.downs

-- the entry has this request, and the segments of this set
pub record IsFor (entry : CachedAnswer) (request : RequestValue) (set : Selection) : Type 0 where
  pub request_is : entry.request ≡ request
  pub segments : HasSegmentsOf entry.set set
