-- Tables that are made part by part stand for the state of boot.
use Rattle.std.proofs.Common.{◌≡◌, ℕ, ◌≤◌, List, [], ◌∷◌, replicate, Some, None, refl, ap, ◌∙◌}
use Rattle.std.specs.Prelude.{◌-◌}
use Rattle.nx_config.specs.declared.limits.Limits.{Limits}
use Rattle.nx_pool.specs.declared.chain.Chain.{Chain}
use Rattle.nx_ksys.specs.Boot.{with_places, shell, shell_thread, booted}
use Rattle.nx_env.specs.Joined.{joined}
use Rattle.nx_fs.specs.Chains as fs
use Rattle.nx_ipc.specs.Tables as ipc
use Rattle.nx_objects.specs.Tables.{IsBooted}
use Rattle.nx_ktables.specs.declared.tables.Tables.{Tables}
use Rattle.nx_ktables.specs.State.{state_of, configured}
use Rattle.nx_ktables.proofs.Booting.{none_seen, one_and_more, first_without_variables}

-- what each part is
pub record AreFirst (limits : Limits) (programs : List (List ℕ)) (input late : List ℕ) (t : Tables) : Type 0 where
  pub some : 1 ≤ limits.threads
  pub names : t.programs.items ≡ programs
  pub blocks : t.blocks ≡ limits.blocks
  pub most : t.limit ≡ limits.nodes
  pub threads : t.threads ≡ record { threads = with_places (Some shell_thread ∷ []) (limits.threads - 1); moments = 1 }
  pub clock : t.clock ≡ record { time = 0; late = late }
  pub groups : t.groups ≡ with_places (Some (shell (configured limits programs)) ∷ []) (limits.threads - 1)
  pub environments : t.environments ≡ replicate limits.threads []
  pub codes : t.codes.codes ≡ []
  pub values : t.values.values ≡ []
  pub objects : IsBooted programs limits.threads limits.nodes t.objects
  pub terminal : t.terminal ≡ record { shown = []; room = limits.console; input = input }
  pub numbers : t.numbers ≡ 1
  pub ended : t.ended.ends ≡ []
  pub calls : t.calls ≡ 0

module _ (content : Chain → List ℕ) (limits : Limits) (programs : List (List ℕ)) (input late : List ℕ) (t : Tables) (f : AreFirst limits programs input late t) where
  first_groups : joined t.groups t.environments ≡ with_places (Some (shell (configured limits programs)) ∷ []) (limits.threads - 1)
  first_groups = ap (λ gs. joined gs t.environments) f.groups ∙ ap (λ es. joined (with_places (Some (shell (configured limits programs)) ∷ []) (limits.threads - 1)) es) f.environments
      ∙ first_without_variables (shell (configured limits programs)) (limits.threads - 1) limits.threads refl

  first_files : fs.files_of content t.objects.files ≡ replicate limits.nodes None
  first_files = ap (fs.files_of content) f.objects.files ∙ none_seen (fs.bytes_in content) limits.nodes refl

  first_queues : ipc.queues_of content t.objects.queues.queues ≡ replicate limits.nodes None
  first_queues = ap (ipc.queues_of content) f.objects.queues ∙ none_seen (ipc.queue_seen content) limits.nodes refl

  first_sending : ipc.sending_of content t.objects.queues.sending ≡ None ∷ replicate (limits.threads - 1) None
  first_sending = ap (ipc.sending_of content) f.objects.sending ∙ none_seen (ipc.sent_of content) limits.threads refl ∙ one_and_more limits.threads None f.some

  pub booted_state : state_of content t ≡ booted (configured limits programs) (limits.threads - 1) input late
  unfolding booted
  booted_state = (λ i. record {
    limits = record { programs = f.names i; blocks = f.blocks i; objects = f.most i; console = (ap (λ x. x.room) f.terminal) i };
    sched = f.threads i;
    time = (ap (λ x. x.time) f.clock) i;
    late = (ap (λ x. x.late) f.clock) i;
    groups = first_groups i;
    codes = f.codes i;
    values = f.values i;
    descriptors = f.objects.descriptors i;
    opens = f.objects.descriptions i;
    tree = record { entries = f.objects.entries i; files = first_files i };
    queues = first_queues i;
    sending = first_sending i;
    semaphores = f.objects.semaphores i;
    console = (ap (λ x. x.shown) f.terminal) i;
    input = (ap (λ x. x.input) f.terminal) i;
    numbers = f.numbers i;
    ended = f.ended i;
    calls = f.calls i;
  })
