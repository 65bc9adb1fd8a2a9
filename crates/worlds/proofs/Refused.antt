-- What is so where the tests of a world's rules come out, one after the other.
use Rattle.std.proofs.Common.{◌≡◌, true, false}
use Rattle.dname.specs.Labels.{root}
use Rattle.authority.specs.Catalogs.{has_twins, AreZones}
use Rattle.world_truth.specs.Worlds.{World, HaveOwnOrigins, IsOrigin, IsWorld}
use Rattle.worlds.specs.Rules.{has_origin, has_loose_cuts, has_undelegated, has_lame_cuts, has_idle_host, has_bad_hint, lacks_start}
use Rattle.worlds.specs.Refusals.{HasCutZones, IsDelegated, IsServed, IsStarted, IsWorldRefused}
use Rattle.worlds.specs.declared.fault.WorldError.TheVariants.{NoRoot, LooseCut, Undelegated, Lame, NoStart, Twins}
use Rattle.worlds.proofs.Decided.{Yes, No, fails, breaks}
use Rattle.worlds.proofs.Worlds.{parted_is, yes_origin, cuts_are, placed_are, servers_are, hosts_are, hints_are, start_is}

-- The rules that were tested before.
pub record Parts (W : World) : Type 0 where
  pub all : AreZones W.zones
  pub apart : has_twins W.zones ≡ false

pub record Rooted (W : World) : Type 0 where
  pub parts : Parts W
  pub rooted : has_origin root W.zones ≡ true

pub record CutOff (W : World) : Type 0 where
  pub before : Rooted W
  pub cuts : has_loose_cuts W.zones W.zones ≡ false

pub record Placed (W : World) : Type 0 where
  pub before : CutOff W
  pub placed : has_undelegated W.zones W.locals W.zones ≡ false

pub record Housed (W : World) : Type 0 where
  pub before : Placed W
  pub housed : has_idle_host W.zones W.hosts ≡ false

pub record Served (W : World) : Type 0 where
  pub before : Housed W
  pub served : has_lame_cuts W.zones W.hosts W.zones ≡ false

pub record Hinted (W : World) : Type 0 where
  pub before : Served W
  pub hinted : has_bad_hint W.hosts W.hints ≡ false

module _ (W : World) where
  apart_so : Parts W → HaveOwnOrigins W.zones
  apart_so p = No.so (parted_is W.zones) p.apart

  root_so : Rooted W → IsOrigin W root
  root_so p = Yes.so (yes_origin root W.zones) p.rooted

  cuts_so : CutOff W → HasCutZones W
  cuts_so p = No.so (cuts_are W) p.cuts

  placed_so : Placed W → IsDelegated W
  placed_so p = No.so (placed_are W) p.placed

  served_so : Served W → IsServed W
  served_so p = record {
    servers = No.so (servers_are W p.before.before.before.before.parts.all p.before.before.before.before.parts.apart) p.served;
    hosts = No.so (hosts_are W) p.before.housed;
  }

  pub no_root : Parts W → has_origin root W.zones ≡ false → IsWorldRefused W NoRoot
  no_root p h = (apart_so p, fails (yes_origin root W.zones) h)

  pub loose : Rooted W → has_loose_cuts W.zones W.zones ≡ true → IsWorldRefused W LooseCut
  loose p h = (apart_so p.parts, root_so p, breaks (cuts_are W) h)

  pub undelegated : CutOff W → has_undelegated W.zones W.locals W.zones ≡ true → IsWorldRefused W Undelegated
  undelegated p h = (apart_so p.before.parts, root_so p.before, cuts_so p, breaks (placed_are W) h)

  pub idle : Placed W → has_idle_host W.zones W.hosts ≡ true → IsWorldRefused W Lame
  idle p h = (apart_so p.before.before.parts, root_so p.before.before, cuts_so p.before, placed_so p, λ s. let k : IsServed W = s in breaks (hosts_are W) h k.hosts)

  pub lame : Housed W → has_lame_cuts W.zones W.hosts W.zones ≡ true → IsWorldRefused W Lame
  lame p h = (
    apart_so p.before.before.before.parts,
    root_so p.before.before.before,
    cuts_so p.before.before,
    placed_so p.before,
    λ s. let k : IsServed W = s in breaks (servers_are W p.before.before.before.parts.all p.before.before.before.parts.apart) h k.servers,
  )

  not_started : Served W → (IsStarted W → ⊥) → IsWorldRefused W NoStart
  not_started p h = (apart_so p.before.before.before.before.parts, root_so p.before.before.before.before, cuts_so p.before.before.before, placed_so p.before.before, served_so p, h)

  pub bad_hint : Served W → has_bad_hint W.hosts W.hints ≡ true → IsWorldRefused W NoStart
  bad_hint p h = not_started p (λ s. let k : IsStarted W = s in breaks (hints_are W) h k.hints)

  pub no_start : Hinted W → lacks_start W.hints W.locals ≡ true → IsWorldRefused W NoStart
  no_start p h = not_started p.before (λ s. let k : IsStarted W = s in breaks (start_is W.hints W.locals) h k.start)

  pub well_formed : Hinted W → lacks_start W.hints W.locals ≡ false → IsWorld W
  well_formed p h =
      let s : IsServed W = served_so p.before in
      let d : Placed W = p.before.before.before in
      record {
        zones = λ z m. let k = d.before.before.parts.all z m in k.0;
        names = λ z m. let k = d.before.before.parts.all z m in k.1;
        parted = apart_so d.before.before.parts;
        rooted = root_so d.before.before;
        cuts = cuts_so d.before;
        delegated = placed_so d;
        servers = s.servers;
        hosts = s.hosts;
        hints = No.so (hints_are W) p.hinted;
        start = No.so (start_is W.hints W.locals) h;
      }

pub twins : (W : World) → has_twins W.zones ≡ true → IsWorldRefused W Twins
twins W h = breaks (parted_is W.zones) h
