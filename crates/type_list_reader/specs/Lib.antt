pub mod SeenMembers
