-- The limits of the code are those of the definitions.
use Rattle.std.specs.Prelude.{◌≡◌}
use Rattle.limits.specs.declared.TheConstants.{MAX_ALIASES, MAX_ASKS, MAX_LOOK_UPS, MAX_OPEN_QUERIES, MAX_NESTING, MAX_SERVERS, MAX_REFERRAL_SERVERS, MAX_GLUE, MAX_ENTRIES, MAX_SOCKETS, MAX_WORKERS, QUERY_LIFETIME_MS, TCP_WAIT_MS, MAX_TTL, MAX_NEGATIVE_TTL, FAILURE_LIFETIME, LATEST_MOMENT}
use Rattle.limits.specs.Limits.{max_aliases, max_asks, max_look_ups, max_open, max_nesting, max_servers, max_referral_servers, max_glue, max_entries, max_sockets, max_workers, query_lifetime, tcp_wait, max_ttl, max_negative_ttl, failure_lifetime, latest_moment}

pub record LimitsAgree : Type 0 where
  pub max_aliases_is : MAX_ALIASES ≡ max_aliases
  pub max_asks_is : MAX_ASKS ≡ max_asks
  pub max_look_ups_is : MAX_LOOK_UPS ≡ max_look_ups
  pub max_open_is : MAX_OPEN_QUERIES ≡ max_open
  pub max_nesting_is : MAX_NESTING ≡ max_nesting
  pub max_servers_is : MAX_SERVERS ≡ max_servers
  pub max_referral_servers_is : MAX_REFERRAL_SERVERS ≡ max_referral_servers
  pub max_glue_is : MAX_GLUE ≡ max_glue
  pub max_entries_is : MAX_ENTRIES ≡ max_entries
  pub max_sockets_is : MAX_SOCKETS ≡ max_sockets
  pub max_workers_is : MAX_WORKERS ≡ max_workers
  pub query_lifetime_is : QUERY_LIFETIME_MS ≡ query_lifetime
  pub tcp_wait_is : TCP_WAIT_MS ≡ tcp_wait
  pub max_ttl_is : MAX_TTL ≡ max_ttl
  pub max_negative_ttl_is : MAX_NEGATIVE_TTL ≡ max_negative_ttl
  pub failure_lifetime_is : FAILURE_LIFETIME ≡ failure_lifetime
  pub latest_moment_is : LATEST_MOMENT ≡ latest_moment
