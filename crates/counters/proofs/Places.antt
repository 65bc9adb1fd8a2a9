-- Each counter is found again by its place.
use Rattle.std.proofs.Common.{◌≡◌, ◌∙◌, refl, ap, sym, ℕ, List, [], ◌∷◌, get_or}
use Rattle.causes.specs.declared.cause.Cause.TheVariants as cause
use Rattle.counters.specs.Counters.{place}
use Rattle.counters.specs.declared.counter.Counter.{Counter}
use Rattle.counters.specs.declared.counter.Counter.TheVariants as counter
use Rattle.counters.specs.declared.labels.Way.TheVariants as way
use Rattle.counters.specs.declared.labels.QueryType.TheVariants as kind
use Rattle.counters.specs.declared.labels.Rcode.TheVariants as rcode
use Rattle.counters.specs.declared.labels.Source.TheVariants as source
use Rattle.counters.specs.declared.labels.AskFault.TheVariants as fault
use Rattle.counters.specs.declared.labels.SocketFault.TheVariants as socket
use Rattle.counters.specs.declared.labels.Bucket.TheVariants as bucket

-- All counters, each at its place.
all : List Counter
all =
    counter.Query way.Udp kind.A ∷ counter.Query way.Udp kind.Ns ∷ counter.Query way.Udp kind.Cname ∷
    counter.Query way.Udp kind.Soa ∷ counter.Query way.Udp kind.Ptr ∷ counter.Query way.Udp kind.Mx ∷
    counter.Query way.Udp kind.Txt ∷ counter.Query way.Udp kind.Aaaa ∷ counter.Query way.Udp kind.Srv ∷
    counter.Query way.Udp kind.Https ∷ counter.Query way.Udp kind.Other ∷ counter.Query way.Tcp kind.A ∷
    counter.Query way.Tcp kind.Ns ∷ counter.Query way.Tcp kind.Cname ∷ counter.Query way.Tcp kind.Soa ∷
    counter.Query way.Tcp kind.Ptr ∷ counter.Query way.Tcp kind.Mx ∷ counter.Query way.Tcp kind.Txt ∷
    counter.Query way.Tcp kind.Aaaa ∷ counter.Query way.Tcp kind.Srv ∷ counter.Query way.Tcp kind.Https ∷
    counter.Query way.Tcp kind.Other ∷ counter.Reply rcode.NoError ∷ counter.Reply rcode.FormErr ∷
    counter.Reply rcode.ServFail ∷ counter.Reply rcode.NxDomain ∷ counter.Reply rcode.NotImp ∷
    counter.Reply rcode.Refused ∷ counter.Reply rcode.Other ∷ counter.Truncated ∷
    counter.Failure cause.TooManyOpen ∷ counter.Failure cause.DeadlineOver ∷
    counter.Failure cause.ChainTooLong ∷ counter.Failure cause.TooManyAsks ∷
    counter.Failure cause.NoServerLeft ∷ counter.Failure cause.ReplyTooLarge ∷
    counter.Failure cause.KnownFailure ∷ counter.Failure cause.TooManyLookUps ∷ counter.Answer source.Local ∷
    counter.Answer source.Cache ∷ counter.Answer source.Servers ∷ counter.Ask way.Udp ∷ counter.Ask way.Tcp ∷
    counter.FailedAsk way.Udp fault.Barred ∷
    counter.FailedAsk way.Udp fault.Descriptors ∷
    counter.FailedAsk way.Udp fault.Refused ∷
    counter.FailedAsk way.Udp fault.Reset ∷
    counter.FailedAsk way.Udp fault.Crowded ∷
    counter.FailedAsk way.Udp fault.Silent ∷
    counter.FailedAsk way.Tcp fault.Barred ∷
    counter.FailedAsk way.Tcp fault.Descriptors ∷
    counter.FailedAsk way.Tcp fault.Refused ∷
    counter.FailedAsk way.Tcp fault.Reset ∷
    counter.FailedAsk way.Tcp fault.Crowded ∷
    counter.FailedAsk way.Tcp fault.Silent ∷
    counter.ForeignDatagram ∷ counter.HeldQuery ∷ counter.DroppedQuery ∷ counter.RefusedMemory ∷
    counter.FailedSocket socket.Send ∷
    counter.FailedSocket socket.Receive ∷
    counter.FailedSocket socket.Accept ∷
    counter.FailedSocket socket.Descriptors ∷
    counter.FailedSocket socket.Stream ∷
    counter.FailedSocket socket.Poll ∷
    counter.Waited bucket.Ms1 ∷ counter.Waited bucket.Ms5 ∷ counter.Waited bucket.Ms10 ∷
    counter.Waited bucket.Ms25 ∷ counter.Waited bucket.Ms50 ∷ counter.Waited bucket.Ms100 ∷
    counter.Waited bucket.Ms250 ∷ counter.Waited bucket.Ms500 ∷ counter.Waited bucket.Ms1000 ∷
    counter.Waited bucket.Ms2500 ∷ counter.Waited bucket.Ms5000 ∷ counter.Waited bucket.Ms10000 ∷
    counter.Waited bucket.Longer ∷ counter.WaitedMillis ∷ []

at : ℕ → Counter
at n = get_or all n counter.WaitedMillis

at_place : (c : Counter) → at (place c) ≡ c
unfolding at all
at_place (counter.Query way.Udp kind.A) = refl
at_place (counter.Query way.Udp kind.Ns) = refl
at_place (counter.Query way.Udp kind.Cname) = refl
at_place (counter.Query way.Udp kind.Soa) = refl
at_place (counter.Query way.Udp kind.Ptr) = refl
at_place (counter.Query way.Udp kind.Mx) = refl
at_place (counter.Query way.Udp kind.Txt) = refl
at_place (counter.Query way.Udp kind.Aaaa) = refl
at_place (counter.Query way.Udp kind.Srv) = refl
at_place (counter.Query way.Udp kind.Https) = refl
at_place (counter.Query way.Udp kind.Other) = refl
at_place (counter.Query way.Tcp kind.A) = refl
at_place (counter.Query way.Tcp kind.Ns) = refl
at_place (counter.Query way.Tcp kind.Cname) = refl
at_place (counter.Query way.Tcp kind.Soa) = refl
at_place (counter.Query way.Tcp kind.Ptr) = refl
at_place (counter.Query way.Tcp kind.Mx) = refl
at_place (counter.Query way.Tcp kind.Txt) = refl
at_place (counter.Query way.Tcp kind.Aaaa) = refl
at_place (counter.Query way.Tcp kind.Srv) = refl
at_place (counter.Query way.Tcp kind.Https) = refl
at_place (counter.Query way.Tcp kind.Other) = refl
at_place (counter.Reply rcode.NoError) = refl
at_place (counter.Reply rcode.FormErr) = refl
at_place (counter.Reply rcode.ServFail) = refl
at_place (counter.Reply rcode.NxDomain) = refl
at_place (counter.Reply rcode.NotImp) = refl
at_place (counter.Reply rcode.Refused) = refl
at_place (counter.Reply rcode.Other) = refl
at_place counter.Truncated = refl
at_place (counter.Failure cause.TooManyOpen) = refl
at_place (counter.Failure cause.DeadlineOver) = refl
at_place (counter.Failure cause.ChainTooLong) = refl
at_place (counter.Failure cause.TooManyAsks) = refl
at_place (counter.Failure cause.NoServerLeft) = refl
at_place (counter.Failure cause.ReplyTooLarge) = refl
at_place (counter.Failure cause.KnownFailure) = refl
at_place (counter.Failure cause.TooManyLookUps) = refl
at_place (counter.Answer source.Local) = refl
at_place (counter.Answer source.Cache) = refl
at_place (counter.Answer source.Servers) = refl
at_place (counter.Ask way.Udp) = refl
at_place (counter.Ask way.Tcp) = refl
at_place (counter.FailedAsk way.Udp fault.Barred) = refl
at_place (counter.FailedAsk way.Udp fault.Descriptors) = refl
at_place (counter.FailedAsk way.Udp fault.Refused) = refl
at_place (counter.FailedAsk way.Udp fault.Reset) = refl
at_place (counter.FailedAsk way.Udp fault.Crowded) = refl
at_place (counter.FailedAsk way.Udp fault.Silent) = refl
at_place (counter.FailedAsk way.Tcp fault.Barred) = refl
at_place (counter.FailedAsk way.Tcp fault.Descriptors) = refl
at_place (counter.FailedAsk way.Tcp fault.Refused) = refl
at_place (counter.FailedAsk way.Tcp fault.Reset) = refl
at_place (counter.FailedAsk way.Tcp fault.Crowded) = refl
at_place (counter.FailedAsk way.Tcp fault.Silent) = refl
at_place counter.ForeignDatagram = refl
at_place counter.HeldQuery = refl
at_place counter.DroppedQuery = refl
at_place counter.RefusedMemory = refl
at_place (counter.FailedSocket socket.Send) = refl
at_place (counter.FailedSocket socket.Receive) = refl
at_place (counter.FailedSocket socket.Accept) = refl
at_place (counter.FailedSocket socket.Descriptors) = refl
at_place (counter.FailedSocket socket.Stream) = refl
at_place (counter.FailedSocket socket.Poll) = refl
at_place (counter.Waited bucket.Ms1) = refl
at_place (counter.Waited bucket.Ms5) = refl
at_place (counter.Waited bucket.Ms10) = refl
at_place (counter.Waited bucket.Ms25) = refl
at_place (counter.Waited bucket.Ms50) = refl
at_place (counter.Waited bucket.Ms100) = refl
at_place (counter.Waited bucket.Ms250) = refl
at_place (counter.Waited bucket.Ms500) = refl
at_place (counter.Waited bucket.Ms1000) = refl
at_place (counter.Waited bucket.Ms2500) = refl
at_place (counter.Waited bucket.Ms5000) = refl
at_place (counter.Waited bucket.Ms10000) = refl
at_place (counter.Waited bucket.Longer) = refl
at_place counter.WaitedMillis = refl

-- Two counters with one place are one.
pub same_place : (a b : Counter) → place a ≡ place b → a ≡ b
same_place a b same = sym (at_place a) ∙ ap at same ∙ at_place b
