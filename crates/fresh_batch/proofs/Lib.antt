pub mod FreshLists
